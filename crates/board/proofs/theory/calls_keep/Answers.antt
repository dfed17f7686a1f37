use Rattle.board.proofs.Steps.{calls_keep}
use Rattle.board.proofs.theory.calls_keep.Goals as goal

pub returns : goal.returns
returns g c = calls_keep
