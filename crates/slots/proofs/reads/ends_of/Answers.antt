use Rattle.std.proofs.Common.{length, ap, subst, arith}
use Rattle.std.proofs.lemmas.List.{take_rest, length-drop}
use Rattle.slots.specs.Steps.{Found}
use Rattle.slots.proofs.reads.ends_of.Goals as goal

pub returns : goal.returns
returns g c =
    let xs = c.args.slots.now in
    let at = c.spot_of-start.result.place in
    let rest = take_rest xs at in
    record {
      start = c.spot_of-start.ensures.found;
      end = subst (λ ys. Found c.args.span.until c.spot_of-start.result.before ys c.spot_of-end.result) rest c.spot_of-end.ensures.found;
      inside = omega (arith, c.spot_of-end.ensures.inside, c.spot_of-start.ensures.inside, ap length rest, length-drop at xs);
    }
