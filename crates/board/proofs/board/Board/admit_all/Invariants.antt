use Rattle.board.specs.Views.{holding, SameMemory}
use Rattle.board.proofs.Admitted.{Reading}
use Rattle.board.proofs.board.Board.admit_all.Given as goal

abbrev pub invariant-loop-i : goal.invariant-loop-i
invariant-loop-i g l =
    Reading g.L.Units.kind g.L.Filed.filing l.header l.rows l.initial.self.rows.room l.i l.low (holding l.self) ×
    SameMemory l.initial.self l.self
