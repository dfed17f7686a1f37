use Rattle.board.proofs.Stays.{loads_leave}
use Rattle.board.proofs.theory.loads_leave.Goals as goal

pub returns : goal.returns
returns g c = loads_leave
