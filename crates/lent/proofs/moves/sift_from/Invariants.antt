use Rattle.std.proofs.Common.{◌≡◌, ◌≤◌, ◌++◌, take, drop}
use Rattle.lent.specs.Sifting.{sifted}
use Rattle.lent.proofs.moves.sift_from.Given as goal

abbrev pub invariant-loop-i : goal.invariant-loop-i
invariant-loop-i g l =
    (l.left ≤ l.i)
    × (drop l.i l.xs ≡ drop l.i l.initial.xs)
    × (take l.left l.xs ++ sifted g.S.Sieve.left g.S.Sieve.after l.sieve (drop l.i l.initial.xs)
    ≡ take l.initial.left l.initial.xs ++ sifted g.S.Sieve.left g.S.Sieve.after l.initial.sieve (drop l.initial.left l.initial.xs))
