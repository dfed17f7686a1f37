use Rattle.bookings.proofs.Few.{slots_few}
use Rattle.bookings.proofs.theory.slots_few.Goals as goal

pub returns : goal.returns
returns g c = slots_few
