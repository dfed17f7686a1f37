use Rattle.bookings.proofs.Orders.{units_conserved}
use Rattle.bookings.proofs.theory.units_conserved.Goals as goal

pub returns : goal.returns
returns g c = units_conserved
