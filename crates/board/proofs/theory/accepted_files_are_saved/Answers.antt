use Rattle.board.proofs.FilesMatch.{accepted_is_saved}
use Rattle.board.proofs.theory.accepted_files_are_saved.Goals as goal

pub returns : goal.returns
returns g c = accepted_is_saved
