use Rattle.bookings.proofs.Boards.{addition_sound}
use Rattle.bookings.proofs.theory.addition_sound.Goals as goal

pub returns : goal.returns
returns g c = addition_sound
