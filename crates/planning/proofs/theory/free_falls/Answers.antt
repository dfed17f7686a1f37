use Rattle.planning.proofs.Joins.{free_falls}
use Rattle.planning.proofs.theory.free_falls.Goals as goal

pub returns : goal.returns
returns g c = free_falls
