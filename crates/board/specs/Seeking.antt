-- What a search on a board comes to. Assumes nothing.
use Rattle.std.specs.Prelude.{◌≡◌, Some, None, Option}
use Rattle.units.specs.Kinds.{Kind}
use Rattle.planning.specs.Policies.{Preference}
use Rattle.planning.specs.declared.found.Found.{Found}
use Rattle.planning.specs.declared.request.Request.{Request}
use Rattle.bookings.specs.Grants.{booked}
use Rattle.bookings.specs.declared.booking.Booking.{Booking}
use Rattle.board.specs.Calls.{Holding, found_on}

-- some policy finds the booking x for the request
pub record Findable {L : Type 0} (k : Kind L) (board : Holding L) (request : Request) (x : Booking L) : Type 0 where
  pub policy : Preference
  pub is : found_on k board request policy ≡ Some x

-- what the search answers is what the policy finds
abbrev pub Sought : {L : Type 0} → Kind L → Holding L → Request → Preference → Option (Found L) → Type 0
Sought k board request policy None = found_on k board request policy ≡ None
Sought k board request policy (Some f) =
    let x = booked request f.rectangle.start f.claim in (found_on k board request policy ≡ Some x) × Findable k board request x
