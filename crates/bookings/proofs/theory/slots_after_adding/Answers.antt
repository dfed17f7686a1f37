use Rattle.bookings.proofs.Lists.{slots_after_adding}
use Rattle.bookings.proofs.theory.slots_after_adding.Goals as goal

pub returns : goal.returns
returns g c = slots_after_adding
