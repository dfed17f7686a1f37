use Rattle.std.proofs.Common.{◌≡◌}
use Rattle.planning.specs.Rectangles.{opening_of}
use Rattle.slots.specs.Stepped.{at}
use Rattle.planning.proofs.walk.Around.opening.Given as goal

abbrev pub invariant-loop-slot : goal.invariant-loop-slot
invariant-loop-slot g l =
    let k = g.L.Units.kind in
    opening_of k (at k.nothing l.slot-iterator.iter.rest.now) l.over l.open ≡ opening_of k (at k.nothing l.self.before.now) l.over l.self.minute
