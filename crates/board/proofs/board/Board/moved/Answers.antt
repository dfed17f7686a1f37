use Rattle.std.proofs.Common.{◌≡◌, List, Some, get_or, sym, subst, ◌∙◌}
use Rattle.bookings.specs.Rows.{blank_row, numbered}
use Rattle.bookings.specs.declared.row.Row.{Row}
use Rattle.board.specs.Views.{holding}
use Rattle.board.proofs.Answered.{moved_answer, moved_after}
use Rattle.board.proofs.board.Board.moved.Goals as goal

pub returns-in-Some : goal.returns-in-Some
returns-in-Some g c =
    let k = g.L.Units.kind in
    let was = c.args.self.now in
    let row = get_or (holding was).book.rows c.in-Some.place (blank_row was.slots.floor) in
    let there = subst (λ (rows : List (Row g.row.L.Denot)). numbered c.args.number rows ≡ Some (get_or rows c.in-Some.place (blank_row was.slots.floor))) c.items.ensures (c.in-Some.ensures.1 (blank_row was.slots.floor)) in
    let did = c.act.ensures in
    record {
      answer = did.answer row there ∙ moved_answer k (holding was) c.args.event c.args.number row there;
      board = did.board row there ∙ sym (moved_after k (holding was) c.args.event c.args.number row there);
      memory = did.memory;
    }
