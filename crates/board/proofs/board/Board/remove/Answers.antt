use Rattle.std.proofs.Common.{List, get_or, sym, ap, ◌∙◌}
use Rattle.bookings.proofs.Found.{some_is}
use Rattle.bookings.specs.declared.row.Row.{Row}
use Rattle.board.specs.Calls.{without_row}
use Rattle.board.specs.Views.{holding}
use Rattle.board.proofs.Booked.{numbered_is, unbooked}
use Rattle.board.proofs.board.Board.remove.Goals as goal

pub invariant_of-self : goal.invariant_of-self
invariant_of-self g c =
    let was = c.args.self.now in
    let row = c.index-items-place.result in
    let read = c.index-items-place.is ∙ ap (λ (rows : List (Row g.row.L.Denot)). get_or rows c.args.place row) c.items.ensures in
    let now = unbooked g.met.L.Units.keeps was c.args.number c.args.place c.requires row read g.L.Value.alike g.met.L.Value.told c.remove.new.self c.remove.ensures.list c.change.result c.change.new.self c.change.ensures.answer c.change.ensures.list in
    record { rows_blank = now.rows_blank; slots_room = now.slots_room; keeping = now.keeping }

pub returns : goal.returns
returns g c =
    let was = c.args.self.now in
    let row = c.index-items-place.result in
    let read = c.index-items-place.is ∙ ap (λ (rows : List (Row g.row.L.Denot)). get_or rows c.args.place row) c.items.ensures in
    let now = unbooked g.met.L.Units.keeps was c.args.number c.args.place c.requires row read g.L.Value.alike g.met.L.Value.told c.remove.new.self c.remove.ensures.list c.change.result c.change.new.self c.change.ensures.answer c.change.ensures.list in
    record {
      board = λ r e. now.holding_is ∙ ap (without_row g.L.Units.kind (holding was) c.args.number) (some_is row r (sym (numbered_is g.met.L.Units.keeps was c.args.number c.args.place c.requires row read) ∙ e));
      memory = record { behind_is = now.behind_is; rows_lent = now.rows_lent; slots_lent = now.slots_lent };
    }
