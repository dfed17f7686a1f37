use Rattle.std.proofs.Common.{◌≡◌, ◌++◌, drop, replicate}
use Rattle.lent.proofs.moves.fill.Given as goal

abbrev pub invariant-loop-place : goal.invariant-loop-place
invariant-loop-place g l = l.xs ≡ replicate l.place-index l.x ++ drop l.place-index l.initial.xs
