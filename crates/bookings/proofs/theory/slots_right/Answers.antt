use Rattle.bookings.proofs.Lists.{slots_right}
use Rattle.bookings.proofs.theory.slots_right.Goals as goal

pub returns : goal.returns
returns g c = slots_right
