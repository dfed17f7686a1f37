use Rattle.std.proofs.Common.{arith}
use Rattle.std.proofs.lemmas.List.{at_drop_all}
use Rattle.slots.specs.Steps.{place}
use Rattle.slots.proofs.Onward.{place_next, place_stop}
use Rattle.slots.proofs.reads.place_of.Goals as goal

pub returns-then-minute-s : goal.returns-then-minute-s
returns-then-minute-s g c =
    omega (arith, place_stop c.args.slots.now c.loop-i.i c.index-slots-i.result c.loop-i-test.true c.index-slots-i.is c.args.minute c.if-minute-s.true)

pub loop-i-preserved : goal.loop-i-preserved
loop-i-preserved g c =
    omega (arith, place_next c.args.slots.now c.loop-i.i c.index-slots-i.result c.loop-i-test.true c.index-slots-i.is c.args.minute c.if-minute-s.false)

pub returns : goal.returns
returns g c =
    omega (arith, at_drop_all (place c.args.minute) c.args.slots.now c.loop-i.i c.loop-i-test.false)
