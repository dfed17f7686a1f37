use Rattle.std.proofs.Common.{◌≡◌, drop}
use Rattle.planning.proofs.Covers.{covered}
use Rattle.planning.proofs.walk.Around.joined.Given as goal

abbrev pub invariant-loop-slot : goal.invariant-loop-slot
invariant-loop-slot g l =
    let k = g.L.Units.kind in
    let around = l.self in
    covered k around.minute l.duration l.over (drop l.slot-index around.after.now) ≡ covered k around.minute l.duration around.here around.after.now
