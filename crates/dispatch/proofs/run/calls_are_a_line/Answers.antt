use Rattle.std.proofs.Common.{map}
use Rattle.sheet.specs.Lines.{lines}
use Rattle.sheet.specs.Orders.{content}
use Rattle.dispatch.proofs.Called.{calls_are_a_line}
use Rattle.dispatch.proofs.run.calls_are_a_line.Goals as goal

pub returns : goal.returns
returns c = calls_are_a_line (map content (lines c.args.sheet.now))
