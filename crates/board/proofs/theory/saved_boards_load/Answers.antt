use Rattle.board.proofs.FilesMatch.{saved_loads}
use Rattle.board.proofs.theory.saved_boards_load.Goals as goal

pub returns : goal.returns
returns g c = saved_loads
