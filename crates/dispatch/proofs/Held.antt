-- What a hold that is refused leaves. Assumes nothing.
use Rattle.std.proofs.Common.{◌≡◌, ℕ, Err, refl}
use Rattle.units.specs.declared.crew.Crew.{Crew}
use Rattle.bookings.specs.declared.refusal.Refusal.{Refusal}
use Rattle.board.specs.Calls.{Holding, Answer, given, done, refused}
use Rattle.board.specs.Results.{hold_result}
use Rattle.dispatch.specs.Running.{hold_leaves}

pub refused_leaves : (welcome : ℕ) (board : Holding Crew) (told : Answer Crew) (why : Refusal) → Err why ≡ hold_result told → hold_leaves welcome board told ≡ board
refused_leaves welcome board (given n x) why e = cc
refused_leaves welcome board done why e = refl
refused_leaves welcome board (refused other) why e = refl
