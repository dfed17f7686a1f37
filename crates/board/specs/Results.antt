-- What the calls return, by what they are answered. Assumes nothing.
use Rattle.std.specs.Prelude.{◌≡◌, ℕ, false, Option, None, Some, Ok, Err, Result}
use Rattle.units.specs.Kinds.{Kind}
use Rattle.bookings.specs.Table.{Fate, becomes, leaves, barred}
use Rattle.bookings.specs.declared.booking.Booking.{Booking}
use Rattle.bookings.specs.declared.event.Event.{Event}
use Rattle.bookings.specs.declared.event.Event.TheVariants.{Confirm, Release}
use Rattle.bookings.specs.declared.refusal.Refusal.{Refusal}
use Rattle.bookings.specs.declared.refusal.Refusal.TheVariants.{NoGap}
use Rattle.board.specs.Calls.{Holding, Answer, given, done, refused, move, answer, wrong_state}
use Rattle.board.specs.declared.grant.Grant.{Grant}
use Rattle.board.specs.declared.token.HoldToken.{HoldToken}

-- done, or the refusal
abbrev pub done_result : {L : Type 0} → Answer L → Result (Unit {0}) Refusal
done_result (given n x) = Ok tt
done_result done = Ok tt
done_result (refused why) = Err why

-- done, or the token handed back where there was a refusal
abbrev pub handed : HoldToken → Result (Unit {0}) Refusal → Result (Unit {0}) HoldToken
handed token (Ok _) = Ok tt
handed token (Err why) = Err token

abbrev pub token_result : {L : Type 0} → HoldToken → Answer L → Result (Unit {0}) HoldToken
token_result token answer = handed token (done_result answer)

-- nothing stands against it, or the refusal
abbrev pub allowed : Option Refusal → Result (Unit {0}) Refusal
allowed None = Ok tt
allowed (Some why) = Err why

-- the table lets the event happen, or its state bars it
abbrev pub done_by : Event → Fate → Result (Unit {0}) Refusal
done_by event (becomes s) = Ok tt
done_by event leaves = Ok tt
done_by event barred = Err (wrong_state event)

-- a booking under its number, with its token, not yet spent
abbrev pub grant_of : {L : Type 0} → ℕ → Booking L → Grant L
grant_of n x = record { number = n; start = x.start; end = x.end; claim = x.claim; token = record { number = n; spent = false } }

-- the grant, or the refusal
abbrev pub hold_result : {L : Type 0} → Answer L → Result (Grant L) Refusal
hold_result (given n x) = Ok (grant_of n x)
hold_result done = Err NoGap
hold_result (refused why) = Err why

-- the board takes the token of this grant, to confirm it or to release it
abbrev pub Takes : {L : Type 0} → Kind L → Holding L → Result (Grant L) Refusal → Type 0
Takes k board (Ok grant) = (answer k board (move Confirm grant.token.number) ≡ done) × (answer k board (move Release grant.token.number) ≡ done) × (grant.token.number ≡ grant.number)
Takes k board (Err why) = Unit {0}
