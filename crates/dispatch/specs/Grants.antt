-- What a grant and a refusal say, for the steps of the runner. Assumes nothing.
use Rattle.std.specs.Prelude.{Ok, Err, Result}
use Rattle.bookings.specs.Refusals.{number}
use Rattle.bookings.specs.declared.booking.Booking.{Booking}
use Rattle.bookings.specs.declared.refusal.Refusal.{Refusal}
use Rattle.board.specs.declared.grant.Grant.{Grant}
use Rattle.sheet.specs.declared.answer.Answer.{Answer}
use Rattle.sheet.specs.declared.answer.Answer.TheVariants.{Refused}

-- the booking that a grant is of
abbrev pub booking_in : {L : Type 0} → Grant L → Booking L
booking_in grant = record { start = grant.start; end = grant.end; claim = grant.claim }

-- what an order is answered that is done or refused
abbrev pub told : Result Answer Refusal → Answer
told (Ok a) = a
told (Err why) = Refused (number why)
