use Rattle.std.proofs.Common.{◌≡◌, drop}
use Rattle.planning.proofs.Closes.{first_loud}
use Rattle.planning.proofs.walk.Around.closing.Given as goal

abbrev pub invariant-loop-slot : goal.invariant-loop-slot
invariant-loop-slot g l =
    let k = g.L.Units.kind in
    first_loud k l.over l.horizon (drop l.slot-index l.self.after.now) ≡ first_loud k l.over l.horizon l.self.after.now
