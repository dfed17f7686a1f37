use Rattle.std.proofs.Common.{◌≡◌, ◌++◌, map, string_bytes}
use Rattle.board.specs.Views.{holding}
use Rattle.sheet.specs.Lines.{lines}
use Rattle.sheet.specs.Orders.{content}
use Rattle.dispatch.specs.Running.{texts}
use Rattle.dispatch.proofs.Turns.{MakesUp}
use Rattle.dispatch.proofs.run.run_lines.Given as goal

abbrev pub invariant-loop-item : goal.invariant-loop-item
invariant-loop-item l =
    (l.item-iterator.sheet.now ≡ l.sheet)
    × MakesUp l.sheet l.item-iterator.at (holding l.board) (string_bytes l.out) (string_bytes l.initial.out ++ texts (holding l.initial.board) (map content (lines l.sheet)))
