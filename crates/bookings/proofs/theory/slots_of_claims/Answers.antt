use Rattle.bookings.proofs.Orders.{slots_of_claims}
use Rattle.bookings.proofs.theory.slots_of_claims.Goals as goal

pub returns : goal.returns
returns g c = slots_of_claims
