use Rattle.examples.proofs.Computed.{computed}
use Rattle.examples.proofs.examples_hold.Goals as goal

pub returns : goal.returns
returns c = computed
