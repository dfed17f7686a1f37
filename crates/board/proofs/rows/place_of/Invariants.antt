use Rattle.board.proofs.Walks.{Passed}
use Rattle.board.proofs.rows.place_of.Given as goal

abbrev pub invariant-loop-i : goal.invariant-loop-i
invariant-loop-i g l = Passed l.number l.rows l.i
