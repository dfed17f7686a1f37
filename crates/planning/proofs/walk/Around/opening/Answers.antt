use Rattle.std.proofs.Common.{sym, arith}
use Rattle.std.proofs.lemmas.List.{nil_from_length}
use Rattle.planning.proofs.Meets.{opening_is}
use Rattle.planning.proofs.Opens.{too_late, is_quiet, is_loud, opens_first}
use Rattle.planning.proofs.walk.Around.opening.Goals as goal

pub returns-then-not-silent : goal.returns-then-not-silent
returns-then-not-silent g c xs is =
    let loud = is_loud g.L.Units.kind c.args.over g.L.Units.kind.nothing c.in-Some.slot.now c.next.new.self.iter.rest.now c.loop-slot.open c.if-slot-open.true (sym c.if-not-silent.ensures) in
    let whole = opening_is g.L.Units.kind xs c.args.self.now is c.args.over in
    cc (c.in-Some.ensures.steps)

pub loop-slot-preserved-then-slot-open : goal.loop-slot-preserved-then-slot-open
loop-slot-preserved-then-slot-open g c =
    let quiet = is_quiet g.L.Units.kind c.args.over g.L.Units.kind.nothing c.in-Some.slot.now c.next.new.self.iter.rest.now c.loop-slot.open c.if-slot-open.true (sym c.if-not-silent.ensures) in
    cc (c.in-Some.ensures.steps)

pub loop-slot-preserved : goal.loop-slot-preserved
loop-slot-preserved g c =
    let late = too_late g.L.Units.kind c.args.over g.L.Units.kind.nothing c.in-Some.slot.now c.next.new.self.iter.rest.now c.loop-slot.open c.if-slot-open.false in
    cc (c.in-Some.ensures.steps)

pub returns : goal.returns
returns g c xs is =
    let none = nil_from_length c.loop-slot.slot-iterator.iter.rest.now c.in-None.ensures.steps.0 in
    let first = opens_first g.L.Units.kind (g.met.L.Units.keeps 0 (omega arith)) c.args.over c.loop-slot.open in
    let whole = opening_is g.L.Units.kind xs c.args.self.now is c.args.over in
    cc
