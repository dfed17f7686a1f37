use Rattle.bookings.proofs.Grants.{grant_right}
use Rattle.bookings.proofs.theory.grant_right.Goals as goal

pub returns : goal.returns
returns g c = grant_right
