use Rattle.std.proofs.Common.{refl}
use Rattle.lent.proofs.Turned.{opens}
use Rattle.lent.proofs.moves.open_at.Goals as goal

pub returns : goal.returns
returns g c = opens c.args.xs.now _ _ c.args.i c.args.x c.requires refl c.rotate_right.ensures.after
