use Rattle.slots.proofs.Whole.{refilled_settled}
use Rattle.slots.proofs.list.settle.Goals as goal

pub returns : goal.returns
returns g c =
    refilled_settled g.V.Value.alike g.C.Change.changed c.args.lent.now c.args.span c.args.how c.args.ends c.put.new.lent c.put-2.new.lent c.sift.new.self c.lacks.result c.lacks.ensures c.put.ensures c.put-2.ensures c.sift.ensures
