use Rattle.std.proofs.Common.{◌++◌, map, string_bytes, ap, ◌∙◌}
use Rattle.board.specs.Views.{holding}
use Rattle.sheet.specs.Orders.{content}
use Rattle.sheet.proofs.LinesInOrder.{lines_from}
use Rattle.dispatch.specs.Running.{texts}
use Rattle.dispatch.proofs.Turns.{turn, at_end}
use Rattle.dispatch.proofs.run.run_lines.Goals as goal

pub loop-item-init : goal.loop-item-init
loop-item-init c =
    let is = c.into_iter-item-iterator.ensures.into_iter_gives in (
      ap (λ r. r.sheet.now) is ∙ c.new-item-items.ensures.sheet,
      ap (λ n. string_bytes c.args.out.now ++ texts (holding c.args.board.now) (map content (lines_from c.args.sheet.now n))) (ap (λ r. r.at) is ∙ c.new-item-items.ensures.place),
    )

pub loop-item-preserved : goal.loop-item-preserved
loop-item-preserved c =
    let s = c.in-Some.ensures.steps in (
      s.0 ∙ c.loop-item.invariant.0,
      turn c.args.sheet.now c.loop-item.item-iterator.sheet.now c.loop-item.item-iterator.at c.next.new.self.at c.in-Some.item (holding c.loop-item.board) (holding c.run_line-answer.new.board) (string_bytes c.loop-item.out) (string_bytes c.write_to.new.out) _ c.run_line-answer.result c.slots.result.now
          c.loop-item.invariant.0 s.1 c.loop-item.invariant.1 c.run_line-answer.ensures.answer c.run_line-answer.ensures.board c.slots.ensures c.in_ok-write_to.ensures,
    )

pub returns : goal.returns
returns c =
    let s = c.in-None.ensures.steps in
    at_end c.args.sheet.now c.loop-item.item-iterator.sheet.now c.loop-item.item-iterator.at (holding c.loop-item.board) (string_bytes c.loop-item.out) _ c.loop-item.invariant.0 s.1.0 c.loop-item.invariant.1
