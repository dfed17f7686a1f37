use Rattle.std.proofs.Common.{◌≡◌}
use Rattle.board.proofs.FileWritten.{partly}
use Rattle.board.proofs.save.write_rows.Given as goal

abbrev pub invariant-loop-i : goal.invariant-loop-i
invariant-loop-i g l = l.out ≡ partly g.L.Filed.filing l.rows l.initial.out l.i
