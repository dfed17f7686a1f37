use Rattle.lines.proofs.FiledPromised.{filed_lines_promise}
use Rattle.lines.proofs.lines_with_loads_keep_their_promise.Goals as goal

pub returns : goal.returns
returns g c = filed_lines_promise
