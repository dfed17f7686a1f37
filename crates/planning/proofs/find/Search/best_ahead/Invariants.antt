use Rattle.std.proofs.Common.{◌≡◌, ◌-◌, map, drop}
use Rattle.planning.specs.Tries.{IsHit, trying}
use Rattle.slots.specs.Stepped.{minutes, Ascending}
use Rattle.planning.proofs.find.Search.best_ahead.Given as goal

abbrev pub invariant-loop-i : goal.invariant-loop-i
invariant-loop-i g l =
    let k = g.L.Units.kind in
    let try = trying k (g.P.Policy.preference l.policy) l.self in
    let xs = l.self.slots.now in
    Ascending 0 xs → (try l.best (map (λ m. m - l.lead) (minutes (drop l.i xs))) ≡ try l.initial.best (map (λ m. m - l.lead) (minutes xs))) × IsHit k l.self l.last
