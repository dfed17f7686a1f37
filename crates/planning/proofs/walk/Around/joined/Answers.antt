use Rattle.std.proofs.Common.{◌+◌, ◌≤◌, drop, sym, ◌∙◌, arith}
use Rattle.std.proofs.lemmas.List.{at_drop_all}
use Rattle.planning.proofs.Ascents.{next}
use Rattle.planning.proofs.Covers.{covered, past}
use Rattle.planning.proofs.Meets.{covered_is}
use Rattle.planning.proofs.walk.Around.joined.Goals as goal

pub returns-then-duration-saturating_sub : goal.returns-then-duration-saturating_sub
returns-then-duration-saturating_sub g c xs is =
    let k = g.L.Units.kind in
    let around = c.args.self.now in
    let s = around.minute in
    let d = c.args.duration in
    let i = c.loop-slot.slot-index in
    let x = c.slot-item.result in
    let over = c.loop-slot.over in
    let some : 1 ≤ d = omega arith in
    sym (past k s d over x (drop (i + 1) around.after.now) (omega arith))
    ∙ sym (next (covered k s d over) around.after.now i x c.loop-slot-test.true c.slot-item.is)
    ∙ c.loop-slot.invariant
    ∙ covered_is k xs around is (g.met.L.Units.keeps 0 (omega arith)) d some

pub returns : goal.returns
returns g c xs is =
    let k = g.L.Units.kind in
    let around = c.args.self.now in
    let s = around.minute in
    let d = c.args.duration in
    let some : 1 ≤ d = omega arith in
    sym (at_drop_all (covered k s d c.loop-slot.over) around.after.now c.loop-slot.slot-index c.loop-slot-test.false)
    ∙ c.loop-slot.invariant
    ∙ covered_is k xs around is (g.met.L.Units.keeps 0 (omega arith)) d some
