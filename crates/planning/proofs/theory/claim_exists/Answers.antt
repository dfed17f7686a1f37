use Rattle.planning.proofs.Joins.{claim_exists}
use Rattle.planning.proofs.theory.claim_exists.Goals as goal

pub returns : goal.returns
returns g c = claim_exists
