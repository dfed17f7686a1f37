use Rattle.bookings.proofs.Lists.{slots_after_removing}
use Rattle.bookings.proofs.theory.slots_after_removing.Goals as goal

pub returns : goal.returns
returns g c = slots_after_removing
