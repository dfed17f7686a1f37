use Rattle.planning.proofs.Joins.{startable}
use Rattle.planning.proofs.theory.startable.Goals as goal

pub returns : goal.returns
returns g c = startable
