use Rattle.std.proofs.Common.{◌≡◌, suc, ◌+◌, ◌-◌, map, drop, sym, ap, ◌∙◌, subst, arith}
use Rattle.std.proofs.lemmas.List.{at_drop_all}
use Rattle.slots.specs.Stepped.{minutes, Ascending}
use Rattle.planning.specs.Tries.{found_at, rectangle_of, IsHit, trying}
use Rattle.planning.proofs.Ascents.{next, onward, lowered}
use Rattle.planning.proofs.Hits.{newer}
use Rattle.planning.proofs.Trying.{turn, passed_over}
use Rattle.planning.proofs.find.Search.best_ahead.Goals as goal
use Rattle.planning.proofs.find.Search.best_ahead.Goals.{then-not-settled, else-not-settled}

pub loop-i-preserved : goal.loop-i-preserved
loop-i-preserved g c asc =
    let k = g.L.Units.kind in
    let p = g.P.Policy.preference c.args.policy.now in
    let search = c.args.self.now in
    let xs = search.slots.now in
    let lead = c.args.lead in
    let i = c.loop-i.i in
    let x = c.slot-item.result in
    let s = x.minute - lead in
    let b = c.loop-i.best in
    let rest = map (λ m. m - lead) (minutes (drop (i + 1) xs)) in
    let try = trying k p search in
    let was = sym (next (λ q. try b (map (λ m. m - lead) (minutes q))) xs i x c.loop-i-test.true c.slot-item.is) ∙ (c.loop-i.invariant asc).0 in
    let last = (c.loop-i.invariant asc).1 in
    elim c.if-not-settled.branch [
      | then-not-settled w ↦
          let more : suc i ≡ i + 1 = omega arith in
          let late = lowered (suc x.minute) (suc s) (drop (i + 1) xs) (subst (λ n. Ascending (suc x.minute) (drop n xs)) more (onward 0 i x xs asc c.loop-i-test.true c.slot-item.is).2) (omega arith) in
          let after = subst (λ n. Ascending (suc n) (drop (i + 1) xs)) (sym c.saturating_sub-start.ensures) late in
          let told = w.found_at-found.ensures asc after last in
          let found = told.0 ∙ ap (found_at k search) c.saturating_sub-start.ensures in
          let kept = newer k search w.found_at-found.result c.loop-i.last told.1 last in (
            sym (turn k p search b c.if-not-settled.best (rectangle_of w.found_at-found.result) s rest found (w.best-is ∙ w.better_of-best.ensures)) ∙ was,
            subst (IsHit k search) (sym (w.last-is ∙ w.or-last.ensures)) kept,
          )
      | else-not-settled w ↦ (
        ap (λ v. try v rest) w.best-is
            ∙ sym (passed_over k p search b s rest (λ q e. c.settled.ensures w.if-not-settled.false q (e ∙ sym c.saturating_sub-start.ensures)))
            ∙ was,
        subst (IsHit k search) (sym w.last-is) last,
      )
    ]

pub returns : goal.returns
returns g c asc =
    let k = g.L.Units.kind in
    let xs = c.args.self.now.slots.now in
    let try = trying k (g.P.Policy.preference c.args.policy.now) c.args.self.now in
    sym (at_drop_all (λ q. try c.loop-i.best (map (λ m. m - c.args.lead) (minutes q))) xs c.loop-i.i c.loop-i-test.false) ∙ (c.loop-i.invariant asc).0
