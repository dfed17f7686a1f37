use Rattle.std.proofs.Common.{◌≡◌, ◌+◌, cond, leb, drop, sym, ap, ◌∙◌}
use Rattle.std.proofs.lemmas.List.{at_drop_all}
use Rattle.std.proofs.lemmas.Bool.{cond-true, cond-false, le-leb, lt-leb}
use Rattle.slots.specs.Stepped.{at}
use Rattle.slots.proofs.Onward.{step}
use Rattle.slots.proofs.reads.value_at.Goals as goal
use Rattle.slots.proofs.reads.value_at.Goals.{then-s-minute, else-s-minute}

pub loop-s-preserved : goal.loop-s-preserved
loop-s-preserved g c =
    let m = c.args.minute in
    let b = c.loop-s.value in
    let s = c.s-item.result in
    let e = step (λ xs. at b xs m) c.args.slots.now c.loop-s.s-index s c.loop-s-test.true c.s-item.is in
    let v : cond (leb s.minute m) s.value b ≡ c.if-s-minute.value =
    elim c.if-s-minute.branch [
      | then-s-minute w ↦ cond-true _ _ _ (le-leb s.minute m w.if-s-minute.true) ∙ sym w.value-is
      | else-s-minute w ↦ cond-false _ _ _ (lt-leb s.minute m w.if-s-minute.false) ∙ sym w.value-is
    ] in
    sym (e ∙ ap (λ (x : g.row.V.Denot). at x (drop (c.loop-s.s-index + 1) c.args.slots.now) m) v) ∙ c.loop-s.invariant

pub returns : goal.returns
returns g c =
    sym (at_drop_all (λ xs. at c.loop-s.value xs c.args.minute) c.args.slots.now c.loop-s.s-index c.loop-s-test.false) ∙ c.loop-s.invariant
