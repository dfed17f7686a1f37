use Rattle.std.proofs.Common.{◌+◌, min, drop, sym, ◌∙◌, arith}
use Rattle.std.proofs.lemmas.List.{at_drop_all}
use Rattle.std.proofs.lemmas.Bool.{cond-false}
use Rattle.planning.proofs.Ascents.{next}
use Rattle.planning.proofs.Closes.{first_loud}
use Rattle.planning.proofs.Meets.{first_loud_is}
use Rattle.planning.proofs.walk.Around.closing.Goals as goal

pub returns-then-not-silent-2 : goal.returns-then-not-silent-2
returns-then-not-silent-2 g c xs is =
    let k = g.L.Units.kind in
    let around = c.args.self.now in
    let h = c.args.horizon in
    let i = c.loop-slot.slot-index in
    let x = c.slot-item.result in
    c.min.ensures
    ∙ sym (cond-false _ (first_loud k c.args.over h (drop (i + 1) around.after.now)) (min h x.minute) (sym c.if-not-silent-2.ensures))
    ∙ sym (next (first_loud k c.args.over h) around.after.now i x c.loop-slot-test.true c.slot-item.is)
    ∙ c.loop-slot.invariant
    ∙ first_loud_is k xs around is c.args.over h (omega arith) (sym c.if-not-silent.ensures)

pub returns : goal.returns
returns g c xs is =
    let k = g.L.Units.kind in
    let around = c.args.self.now in
    let h = c.args.horizon in
    sym (at_drop_all (first_loud k c.args.over h) around.after.now c.loop-slot.slot-index c.loop-slot-test.false)
    ∙ c.loop-slot.invariant
    ∙ first_loud_is k xs around is c.args.over h (omega arith) (sym c.if-not-silent.ensures)
