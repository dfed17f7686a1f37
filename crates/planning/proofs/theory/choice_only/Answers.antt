use Rattle.planning.proofs.Choices.{choice_only}
use Rattle.planning.proofs.theory.choice_only.Goals as goal

pub returns : goal.returns
returns c = choice_only
