use Rattle.slots.proofs.Edited.{edited_right}
use Rattle.slots.proofs.theorems.edited_right.Goals as goal

pub returns : goal.returns
returns g c = edited_right
