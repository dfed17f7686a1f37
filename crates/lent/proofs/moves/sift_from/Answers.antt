use Rattle.std.proofs.Common.{ℕ, ◌+◌, List, ◌++◌, take, drop, sym, refl, ap, ◌∙◌, ap₂, arith}
use Rattle.lent.specs.Sifting.{sifted}
use Rattle.lent.proofs.Sifts.{rest_more, passed, rest_set, kept, front, count}
use Rattle.lent.proofs.moves.sift_from.Goals as goal
use Rattle.lent.proofs.moves.sift_from.Goals.{in-Some, in_default}

pub loop-i-init : goal.loop-i-init
loop-i-init g c = (omega arith, refl, refl)

pub loop-i-preserved : goal.loop-i-preserved
loop-i-preserved g c =
    let left = g.S.Sieve.left in
    let after = g.S.Sieve.after in
    let xs = c.args.xs.now in
    let l = c.loop-i in
    let x = c.index-xs-i.result in
    let all = take c.args.from xs ++ sifted left after c.args.sieve.now (drop c.args.from xs) in
    let later = λ (n : ℕ) (ys : List g.row.T.Denot). take n ys ++ sifted left after c.pass.new.self (drop (l.i + 1) xs) in
    let then = λ (ys : List g.row.T.Denot). ap (λ s. ys ++ sifted left after s (drop (l.i + 1) xs)) c.pass.ensures.sieve in
    elim c.match-pass.branch [
      | in-Some w ↦ (
        omega (arith, w.left-is, l.invariant.0),
        ap (drop (l.i + 1)) w.xs-is ∙ rest_set left after xs l.xs all l.sieve l.i l.left l.auto.xs l.invariant.0 l.invariant.1 l.invariant.2 c.loop-i-test.true x c.index-xs-i.is w.in-Some.x (sym w.in-Some.is ∙ c.pass.ensures.item),
        ap₂ later w.left-is w.xs-is ∙ then _ ∙ kept left after xs l.xs all l.sieve l.i l.left l.auto.xs l.invariant.0 l.invariant.1 l.invariant.2 c.loop-i-test.true x c.index-xs-i.is w.in-Some.x (sym w.in-Some.is ∙ c.pass.ensures.item),
      )
      | in_default w ↦ (
        omega (arith, w.left-is, l.invariant.0),
        ap (drop (l.i + 1)) w.xs-is ∙ rest_more left after xs l.xs all l.sieve l.i l.left l.auto.xs l.invariant.0 l.invariant.1 l.invariant.2 c.loop-i-test.true x c.index-xs-i.is,
        ap₂ later w.left-is w.xs-is ∙ then _ ∙ passed left after xs l.xs all l.sieve l.i l.left l.auto.xs l.invariant.0 l.invariant.1 l.invariant.2 c.loop-i-test.true x c.index-xs-i.is (sym w.in_default.is ∙ c.pass.ensures.item),
      )
    ]

pub returns-clause-count : goal.returns-clause-count
returns-clause-count g c =
    let l = c.loop-i in
    count g.S.Sieve.left g.S.Sieve.after c.args.xs.now l.xs _ l.sieve l.i l.left l.auto.xs l.invariant.0 l.invariant.1 l.invariant.2 c.loop-i-test.false (omega (arith, l.auto, c.requires))

pub returns-clause-front : goal.returns-clause-front
returns-clause-front g c =
    let l = c.loop-i in
    front g.S.Sieve.left g.S.Sieve.after c.args.xs.now l.xs _ l.sieve l.i l.left l.auto.xs l.invariant.0 l.invariant.1 l.invariant.2 c.loop-i-test.false
