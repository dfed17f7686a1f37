use Rattle.planning.proofs.Joins.{fits_is_clear}
use Rattle.planning.proofs.theory.fits_is_clear.Goals as goal

pub returns : goal.returns
returns g c = fits_is_clear
