use Rattle.sheet.proofs.WrittenOrders.{as_written}
use Rattle.sheet.proofs.theorems.orders_are_as_written.Goals as goal

pub returns : goal.returns
returns c = as_written
