use Rattle.std.proofs.Common.{refl}
use Rattle.lent.proofs.Turned.{closes}
use Rattle.lent.proofs.moves.close_at.Goals as goal

pub returns : goal.returns
returns g c = closes c.args.xs.now _ _ c.args.i c.args.x c.requires refl c.rotate_left.ensures.after
