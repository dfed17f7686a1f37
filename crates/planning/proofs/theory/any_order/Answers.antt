use Rattle.planning.proofs.Orders.{any_order}
use Rattle.planning.proofs.theory.any_order.Goals as goal

pub returns : goal.returns
returns g c = any_order
