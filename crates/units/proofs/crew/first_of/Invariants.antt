use Rattle.units.specs.Sets.{AreLowest}
use Rattle.units.proofs.crew.first_of.Given as goal

abbrev pub invariant-loop-i : goal.invariant-loop-i
invariant-loop-i l = AreLowest l._i l.mask l.picked
