use Rattle.std.proofs.Common.{ap, ◌∙◌}
use Rattle.std.proofs.lemmas.List.{take-append-drop}
use Rattle.lent.specs.Lists.{items}
use Rattle.lent.proofs.Refills.{as_it_was}
use Rattle.slots.specs.Steps.{put_in, at_most_one}
use Rattle.slots.proofs.list.put.Goals as goal

pub returns-in_default : goal.returns-in_default
returns-in_default g c =
    let was = c.args.lent.now in
    as_it_was was _ (ap (λ o. put_in c.args.place (at_most_one o) (items was)) c.in_default.is ∙ take-append-drop c.args.place (items was))
