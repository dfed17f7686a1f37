use Rattle.board.proofs.Stays.{stay_put}
use Rattle.board.proofs.theory.bookings_stay_put.Goals as goal

pub returns : goal.returns
returns g c = stay_put
