use Rattle.board.proofs.Walks.{not_here, here, nowhere}
use Rattle.board.proofs.rows.place_of.Goals as goal

pub loop-i-preserved : goal.loop-i-preserved
loop-i-preserved g c = not_here c.args.number c.args.rows.now c.loop-i.i c.index-rows-i.result c.loop-i-test.true c.index-rows-i.is c.loop-i.invariant c.if-row-number.false

pub returns-then-row-number : goal.returns-then-row-number
returns-then-row-number g c = here c.args.number c.args.rows.now c.loop-i.i c.index-rows-i.result c.loop-i-test.true c.index-rows-i.is c.loop-i.invariant c.if-row-number.true

pub returns : goal.returns
returns g c = nowhere c.args.number c.args.rows.now c.loop-i.i c.loop-i-test.false c.loop-i.invariant
