use Rattle.std.proofs.Common.{◌≡◌, ℕ, List, ◌++◌, length, replicate, set, ap, ◌∙◌, arith}
use Rattle.std.proofs.lemmas.List.{drop_all, append-nil}
use Rattle.lent.proofs.Filled.{one_more}
use Rattle.lent.proofs.moves.fill.Goals as goal

pub loop-place-preserved : goal.loop-place-preserved
loop-place-preserved g c =
    let i = c.loop-place.place-index in
    ap (λ (ys : List g.row.T.Denot). set ys i c.args.x) c.loop-place.invariant ∙ one_more i c.args.x c.args.xs.now c.loop-place-test.true

pub returns : goal.returns
returns g c =
    let i = c.loop-place.place-index in
    let all : i ≡ length c.args.xs.now = omega (arith, c.loop-place.auto.place-index-end, c.loop-place-test.false) in
    c.loop-place.invariant ∙ ap (λ (ys : List g.row.T.Denot). replicate i c.args.x ++ ys) (drop_all i c.args.xs.now c.loop-place-test.false)
    ∙ append-nil (replicate i c.args.x) ∙ ap (λ (k : ℕ). replicate k c.args.x) all
