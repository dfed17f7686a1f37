use Rattle.std.proofs.Common.{sym, ◌∙◌}
use Rattle.bookings.specs.Rows.{bookings}
use Rattle.board.specs.Views.{holding}
use Rattle.board.proofs.Admits.{fits_beside}
use Rattle.board.proofs.board.Board.admit.Goals as goal

pub add-requires : goal.add-requires
add-requires g c =
    let was = c.args.self.now in
    (c.requires, fits_beside g.L.Units.kind was.capacity (bookings (holding was).book.rows) c.args.row.booking (sym c.fits_in.ensures ∙ c.if-not-fits_in.false))
