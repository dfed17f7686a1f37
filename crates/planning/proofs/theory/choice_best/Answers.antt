use Rattle.planning.proofs.Choices.{choice_best}
use Rattle.planning.proofs.theory.choice_best.Goals as goal

pub returns : goal.returns
returns c = choice_best
