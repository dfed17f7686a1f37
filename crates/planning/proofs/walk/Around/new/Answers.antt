use Rattle.std.proofs.Common.{◌≡◌, take, drop, ap, ◌∙◌}
use Rattle.planning.specs.Walks.{upto, last_value}
use Rattle.planning.proofs.Splits.{taken, upto_taken, here_is}
use Rattle.planning.proofs.walk.Around.new.Goals as goal

pub returns-clause-around : goal.returns-clause-around
returns-clause-around g c asc rest =
    let xs = c.args.slots.now in
    let s = c.args.minute in
    let nothing = g.L.Units.kind.nothing in
    let mid : c.count_upto.result ≡ upto s xs = c.count_upto.ensures.which (taken s 0 c.args.hint xs asc) ∙ upto_taken s c.args.hint xs rest in
    let before : c.split_at.result.0.now ≡ take (upto s xs) xs = c.split_at.ensures.front ∙ ap (λ n. take n xs) mid in
    record {
      ascending = asc;
      before_is = before;
      here_is = c.last_load.ensures ∙ ap (last_value nothing) before ∙ here_is s 0 nothing xs asc;
      after_is = c.split_at.ensures.back ∙ ap (λ n. drop n xs) mid;
    }
