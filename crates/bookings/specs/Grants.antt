-- What a grant makes: the booking of a request at a start, and that it keeps the bookings sound. Assumes nothing.
use Rattle.std.specs.Prelude.{◌≡◌, ℕ, ◌+◌, List, ◌∷◌, Some, None, Option}
use Rattle.std.proofs.Math.Bool.{So}
use Rattle.slots.specs.Lists.{Reordered}
use Rattle.units.specs.Kinds.{Kind}
use Rattle.planning.specs.Requests.{in_window}
use Rattle.planning.specs.Search.{joined_over}
use Rattle.planning.specs.declared.request.Request.{Request}
use Rattle.planning.specs.declared.found.Found.{Found}
use Rattle.bookings.specs.Bookings.{load_at, Added}
use Rattle.bookings.specs.declared.booking.Booking.{Booking}

-- the request's booking from minute s on, with that claim
abbrev pub booked : {L : Type 0} → Request → ℕ → L → Booking L
booked request s p = record { start = s; end = s + request.duration; claim = p }

-- the booking of what the search found, if it found any
abbrev pub booking_of : {L : Type 0} → Request → Option (Found L) → Option (Booking L)
booking_of request None = None
booking_of request (Some f) = Some (booked request f.rectangle.start f.claim)

-- a request granted at minute s: the kind's pick is booked from s on, wherever its row stands, and keeps the bookings sound
pub record Granted {L : Type 0} (k : Kind L) (c : ℕ) (bs : List (Booking L)) (request : Request) (s : ℕ) : Type 0 where
  pub claim : L
  pub picked : k.pick c request.wanted (joined_over k (load_at k c bs) s request.duration) ≡ Some claim
  pub sized : k.size claim ≡ request.wanted
  pub inside : So (in_window request s)
  pub added : (all : List (Booking L)) → Reordered all (booked request s claim ∷ bs) → Added k c bs all (booked request s claim)
