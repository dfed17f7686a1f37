use Rattle.std.proofs.Common.{sym, ◌∙◌}
use Rattle.board.proofs.HeldRows.{none_yet, one_held, none_held}
use Rattle.board.proofs.save.some_held.Goals as goal

pub loop-row-preserved : goal.loop-row-preserved
loop-row-preserved g c = none_yet c.args.rows.now c.loop-row.row-index c.loop-row.invariant c.row-item.result c.loop-row-test.true c.row-item.is (sym c.is_held.ensures ∙ c.if-is_held.false)

pub returns-then-is_held : goal.returns-then-is_held
returns-then-is_held g c = one_held c.args.rows.now c.loop-row.row-index c.loop-row.invariant c.row-item.result c.loop-row-test.true c.row-item.is (sym c.is_held.ensures ∙ c.if-is_held.true)

pub returns : goal.returns
returns g c = none_held c.args.rows.now c.loop-row.row-index c.loop-row.invariant c.loop-row-test.false
