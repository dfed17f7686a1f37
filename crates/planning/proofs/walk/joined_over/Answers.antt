use Rattle.std.proofs.Common.{◌∙◌, ap}
use Rattle.slots.specs.Stepped.{at}
use Rattle.planning.specs.Search.{joined_over}
use Rattle.planning.proofs.Ascents.{ascending}
use Rattle.planning.proofs.Splits.{none_left}
use Rattle.planning.proofs.walk.joined_over.Goals as goal

pub returns : goal.returns
returns g c up =
    let k = g.L.Units.kind in
    let xs = c.args.slots.now in
    c.joined.ensures xs (c.new.ensures.around (ascending 0 xs up) (none_left c.args.start xs)) ∙ ap (λ s. joined_over k (at k.nothing xs) s c.args.duration) c.new.ensures.minute
