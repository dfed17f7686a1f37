use Rattle.bookings.proofs.Boards.{removal_sound}
use Rattle.bookings.proofs.theory.removal_sound.Goals as goal

pub returns : goal.returns
returns g c = removal_sound
