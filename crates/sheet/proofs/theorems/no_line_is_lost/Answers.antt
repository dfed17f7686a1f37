use Rattle.sheet.proofs.NoneLost.{none_lost}
use Rattle.sheet.proofs.theorems.no_line_is_lost.Goals as goal

pub returns : goal.returns
returns c = none_lost
