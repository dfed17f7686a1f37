use Rattle.lines.proofs.FiledPromised.{filed_lines_promise}
use Rattle.lines.proofs.filed_boards_keep_their_promise.Goals as goal

pub returns : goal.returns
returns g c = filed_lines_promise g.L.Units.kind g.met.L.Units.keeps g.L.Filed.filing
