use Rattle.bookings.proofs.Orders.{rows_in_any_order}
use Rattle.bookings.proofs.theory.rows_in_any_order.Goals as goal

pub returns : goal.returns
returns g c = rows_in_any_order
