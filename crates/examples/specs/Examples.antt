-- The worked examples of the rules: what boards of 4 mechanics and of 3 pieces are asked, and what they answer. Assumes nothing.
use Rattle.std.specs.Prelude.{◌≡◌, ℕ, [], ◌∷◌, Some, Option}
use Rattle.slots.specs.Stepped.{at, slot_of}
use Rattle.slots.specs.declared.slot.Slot.{Slot}
use Rattle.units.specs.Crews.{crew_kind, of_mask}
use Rattle.units.specs.Stocks.{stock_kind, of_count}
use Rattle.units.specs.declared.crew.Crew.{Crew}
use Rattle.units.specs.declared.stock.Stock.{Stock}
use Rattle.planning.specs.Policies.{Preference, granted}
use Rattle.planning.specs.Rules.{earliest_start, most_free}
use Rattle.planning.specs.declared.rectangle.Rectangle.{Rectangle}
use Rattle.planning.specs.declared.request.Request.{Request}
use Rattle.bookings.specs.Refusals.{number}
use Rattle.bookings.specs.declared.event.Event.TheVariants.{Confirm, Cancel}
use Rattle.board.specs.Calls.{Holding, Call, hold, move, Answer, given, done, refused, made, answer, after}

-- THE WORDS

-- ready, duration, deadline, wanted
abbrev pub request : ℕ → ℕ → ℕ → ℕ → Request
request ready duration deadline wanted = record { ready = ready; duration = duration; deadline = deadline; wanted = wanted }

-- a hold by the earliest start
abbrev pub ask : {L : Type 0} → ℕ → ℕ → ℕ → ℕ → Call L
ask ready duration deadline wanted = hold (request ready duration deadline wanted) earliest_start

-- granted: number, start, end, and the mechanics or the pieces
abbrev pub crew_gets : ℕ → ℕ → ℕ → ℕ → Answer Crew
crew_gets n start end mask = given n (record { start = start; end = end; claim = of_mask mask })

abbrev pub stock_gets : ℕ → ℕ → ℕ → ℕ → Answer Stock
stock_gets n start end count = given n (record { start = start; end = end; claim = of_count count })

-- the number of the refusal, or 0
abbrev pub refusal : {L : Type 0} → Answer L → ℕ
refusal (given n x) = 0
refusal done = 0
refusal (refused why) = number why

-- a record of the slot list: minute and load
abbrev pub crew_slot : ℕ → ℕ → Slot Crew
crew_slot minute mask = slot_of minute (of_mask mask)

abbrev pub stock_slot : ℕ → ℕ → Slot Stock
stock_slot minute count = slot_of minute (of_count count)

-- the rectangle of the start that a crew board grants
abbrev pub crew_rectangle : Holding Crew → Request → Preference → Option Rectangle
crew_rectangle board asked policy = granted crew_kind board.book.capacity policy board.book.horizon (at crew_kind.nothing board.slots) asked board.slots

-- THE BOARDS: each after the one above it

-- a crew of 4, for bookings that end by minute 100, with 4 rows
abbrev pub fresh : Holding Crew
fresh = made crew_kind 4 100 4 8

abbrev pub with_a : Holding Crew
with_a = after crew_kind fresh (ask 0 10 10 2)

abbrev pub with_b : Holding Crew
with_b = after crew_kind with_a (ask 5 10 30 2)

abbrev pub with_third : Holding Crew
with_third = after crew_kind with_b (ask 0 10 20 2)

abbrev pub first_confirmed : Holding Crew
first_confirmed = after crew_kind with_third (move Confirm 1)

abbrev pub first_cancelled : Holding Crew
first_cancelled = after crew_kind first_confirmed (move Cancel 1)

-- a stock of 3 pieces
abbrev pub stocked : Holding Stock
stocked = made stock_kind 3 100 4 8

abbrev pub two_taken : Holding Stock
two_taken = after stock_kind stocked (ask 0 10 10 2)

abbrev pub once_refused : Holding Stock
once_refused = after stock_kind two_taken (ask 5 10 15 2)

abbrev pub two_more : Holding Stock
two_more = after stock_kind once_refused (ask 5 10 20 2)

-- THE EXAMPLES

pub record Examples : Type 0 where
  -- A, and B after it
  pub a : answer crew_kind fresh (ask 0 10 10 2) ≡ crew_gets 1 0 10 3
  pub b : answer crew_kind with_a (ask 5 10 30 2) ≡ crew_gets 2 5 15 12
  pub slots_with_b : with_b.slots ≡ crew_slot 0 3 ∷ crew_slot 5 15 ∷ crew_slot 10 12 ∷ crew_slot 15 0 ∷ []
  -- after B: a minute too early, and the next start
  pub no_gap : refusal (answer crew_kind with_b (ask 0 10 19 2)) ≡ 9
  pub third : answer crew_kind with_b (ask 0 10 20 2) ≡ crew_gets 3 10 20 3
  pub slots_with_third : with_third.slots ≡ crew_slot 0 3 ∷ crew_slot 5 15 ∷ crew_slot 15 3 ∷ crew_slot 20 0 ∷ []
  -- then 1 is confirmed and cancelled: a record comes at minute 10, where none stood
  pub confirmed : answer crew_kind with_third (move Confirm 1) ≡ done
  pub cancelled : answer crew_kind first_confirmed (move Cancel 1) ≡ done
  pub slots_without_first : first_cancelled.slots ≡ crew_slot 5 12 ∷ crew_slot 10 15 ∷ crew_slot 15 3 ∷ crew_slot 20 0 ∷ []
  -- after B, by the most free
  pub freest : answer crew_kind with_b (hold (request 0 10 40 2) most_free) ≡ crew_gets 3 15 25 3
  pub freest_rectangle : crew_rectangle with_b (request 0 10 40 2) most_free ≡ Some (record { start = 15; units = 4; opening = 15; closing = 100 })
  -- on a fresh board: no minutes, too many, two windows that are too short, and the last start of all
  pub no_duration : refusal (answer crew_kind fresh (ask 0 0 10 1)) ≡ 4
  pub too_many : refusal (answer crew_kind fresh (ask 0 10 10 5)) ≡ 5
  pub too_short : refusal (answer crew_kind fresh (ask 0 10 9 1)) ≡ 6
  pub past_the_horizon : refusal (answer crew_kind fresh (ask 91 10 101 1)) ≡ 6
  pub last_start : answer crew_kind fresh (ask 90 10 100 1) ≡ crew_gets 1 90 100 1
  -- the stock of 3
  pub two_pieces : answer stock_kind stocked (ask 0 10 10 2) ≡ stock_gets 1 0 10 2
  pub too_few_left : refusal (answer stock_kind two_taken (ask 5 10 15 2)) ≡ 9
  pub after_them : answer stock_kind once_refused (ask 5 10 20 2) ≡ stock_gets 2 10 20 2
  pub slots_of_stock : two_more.slots ≡ stock_slot 0 2 ∷ stock_slot 20 0 ∷ []
