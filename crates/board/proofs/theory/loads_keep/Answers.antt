use Rattle.board.proofs.Steps.{loads_keep}
use Rattle.board.proofs.theory.loads_keep.Goals as goal

pub returns : goal.returns
returns g c = loads_keep
