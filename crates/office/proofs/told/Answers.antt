use Rattle.std.proofs.Common.{length, Err, ap, ◌∙◌}
use Rattle.std.proofs.lemmas.Result.{err_from_is_err_and}
use Rattle.board.specs.Views.{holding}
use Rattle.office.proofs.OnABoard.{fresh_is_open, told_accepted, told_refused}
use Rattle.office.proofs.told.Goals as goal

pub returns-in_err-load : goal.returns-in_err-load
returns-in_err-load g c =
    let k = g.L.Units.kind in
    let fresh = c.make-board.ensures.board ∙ fresh_is_open k (length c.args.rows.now) (length c.args.slots.now) c.requires.1.0 c.requires.1.1 c.requires.0 in
    let p = err_from_is_err_and c.from_residual.result c.from_residual.ensures.1 in
    p.1 ∙ ap (λ w. Err w) p.2 ∙ told_refused k g.L.Filed.filing c.args.bytes.now c.args.minute (holding c.make-board.result) fresh c.in_err-load.field-0.0 c.in_err-load.ensures.answer

pub returns : goal.returns
returns g c =
    let k = g.L.Units.kind in
    let fresh = c.make-board.ensures.board ∙ fresh_is_open k (length c.args.rows.now) (length c.args.slots.now) c.requires.1.0 c.requires.1.1 c.requires.0 in
    let did = c.in_ok-load.ensures in
    told_accepted k g.L.Filed.filing c.args.bytes.now c.args.minute (holding c.make-board.result) fresh (holding c.load.new.self) c.free_on.result _ did.answer did.board c.free_on.ensures
