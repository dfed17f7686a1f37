use Rattle.bookings.proofs.Orders.{order_is_free}
use Rattle.bookings.proofs.theory.order_is_free.Goals as goal

pub returns : goal.returns
returns g c = order_is_free
