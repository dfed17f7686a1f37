use Rattle.std.proofs.Common.{ap, ◌∙◌}
use Rattle.lent.specs.Memory.{laid}
use Rattle.lent.proofs.Blanks.{laid_now}
use Rattle.slots.specs.Stepped.{slot_of}
use Rattle.bookings.specs.Rows.{blank_row}
use Rattle.board.specs.Views.{holding}
use Rattle.board.proofs.board.Board.lies_in_order.Goals as goal

pub returns : goal.returns
returns g c =
    let is = c.args.self.now in
    let rows = is.rows in
    let slots = is.slots.lent in
    record {
      rows = laid_now rows.blank rows.used rows.room rows.memory.now rows.laid_out ∙ ap (λ b. laid b rows.room (holding is).book.rows rows.memory.now) (is.rows_blank ∙ ap blank_row is.keeping.floor_is);
      slots = laid_now slots.blank slots.used slots.room slots.memory.now slots.laid_out ∙ ap (λ b. laid b slots.room (holding is).slots slots.memory.now) (is.slots.blank_is ∙ ap (slot_of 0) is.keeping.floor_is);
    }
