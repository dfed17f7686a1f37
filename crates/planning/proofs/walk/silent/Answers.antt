use Rattle.std.proofs.Common.{ap, ◌∙◌, subst, arith}
use mathlib.Core.Bool.{So}
use Rattle.std.specs.Bool.{one_answer}
use Rattle.planning.proofs.walk.silent.Goals as goal

pub returns : goal.returns
returns g c =
    let k = g.L.Units.kind in
    let laws = g.met.L.Units.keeps 0 (omega arith) in
    let over = c.args.over in
    let all = k.joined over c.args.load in
    let told = g.met.L.Value.told all over in
    c.same.ensures ∙ ap (λ v. g.L.Value.alike v over) c.joined.ensures ∙ one_answer _ _ told (laws.same_is all over, λ e. subst (λ v. So (k.same all v)) e (laws.same_self all))
