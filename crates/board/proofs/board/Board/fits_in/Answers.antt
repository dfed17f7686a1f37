use Rattle.std.proofs.Common.{◌∙◌}
use Rattle.board.specs.Views.{holding}
use Rattle.board.proofs.Fitting.{fits_told}
use Rattle.board.proofs.board.Board.fits_in.Goals as goal

pub returns : goal.returns
returns g c =
    let k = g.L.Units.kind in
    let is = c.args.self.now in
    c.is_clear.ensures ∙ fits_told k g.met.L.Units.keeps is.slots.floor (holding is) is.keeping c.args.row.booking c.requires c.records.result.now c.records.ensures c.joined_over-load.result c.joined_over-load.ensures
