use Rattle.planning.proofs.Stretches.{rectangle_longest}
use Rattle.planning.proofs.theory.rectangle_longest.Goals as goal

pub returns : goal.returns
returns g c = rectangle_longest
