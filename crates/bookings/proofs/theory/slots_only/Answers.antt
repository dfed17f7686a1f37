use Rattle.bookings.proofs.Lists.{slots_only}
use Rattle.bookings.proofs.theory.slots_only.Goals as goal

pub returns : goal.returns
returns g c = slots_only
