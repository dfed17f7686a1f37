use Rattle.std.proofs.Common.{arith}
use Rattle.units.specs.Digits.{and_not}
use Rattle.units.proofs.crew.others.Goals as goal

pub returns : goal.returns
returns c = and_not 64 c.args.mask c.args.taken (omega arith) (omega arith)
