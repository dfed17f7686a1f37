use Rattle.lines.proofs.Promised.{lines_promise}
use Rattle.lines.proofs.lines_keep_their_promise.Goals as goal

pub returns : goal.returns
returns g c = lines_promise
