-- What a board promises at every point of every line of calls: loads, records and rectangles are those of the ledger's entries, for a hold as they stood before it. Assumes nothing.
use Rattle.std.specs.Prelude.{◌≡◌, ℕ, ◌+◌, ◌*◌, ◌≤◌, Bool, true, false, cond, ◌⊎◌, ◌↔◌, List, ◌∷◌, ◌++◌, map, length, Some, ◌≢◌}
use Rattle.slots.specs.Lists.{In, Reordered}
use Rattle.slots.specs.Stepped.{at}
use Rattle.units.specs.Kinds.{Kind, Lawful}
use Rattle.planning.specs.Search.{feasible}
use Rattle.planning.specs.Rectangles.{rectangle}
use Rattle.planning.specs.Policies.{Preference, Unbettered}
use Rattle.planning.specs.declared.request.Request.{Request}
use Rattle.planning.specs.declared.rectangle.Rectangle.{Rectangle}
use Rattle.bookings.specs.Bookings.{standing, load_at, slot_list, Sound, Within, FitsBeside, taken}
use Rattle.bookings.specs.Rows.{Book, bookings, Numbered}
use Rattle.bookings.specs.Table.{Fate, becomes, leaves, barred, fate}
use Rattle.bookings.specs.Grants.{booked}
use Rattle.bookings.specs.declared.booking.Booking.{Booking}
use Rattle.bookings.specs.declared.event.Event.{Event}
use Rattle.bookings.specs.declared.event.Event.TheVariants.{Confirm, Release, Cancel, Begin, Finish}
use Rattle.bookings.specs.declared.refusal.Refusal.{Refusal}
use Rattle.bookings.specs.declared.refusal.Refusal.TheVariants.{NoGap, NotHeld, NoSuchBooking, WrongState}
use Rattle.bookings.specs.declared.row.Row.{Row}
use Rattle.board.specs.Calls.{Holding, Call, hold, move, Answer, given, done, refused, hold_check, Askable, answer}
use Rattle.lines.specs.Lines.{Line, board_of}
use Rattle.lines.specs.Ledger.{noted, ledger_of}

-- confirm and release take a token; the others quote a number
abbrev pub by_token : Event → Bool
by_token Confirm = true
by_token Release = true
by_token Cancel = false
by_token Begin = false
by_token Finish = false

-- what an event is answered where the table gives its booking that fate
abbrev pub by_table : {L : Type 0} → Event → Fate → Answer L
by_table event (becomes s) = done
by_table event leaves = done
by_table event barred = refused (cond (by_token event) NotHeld WrongState)

-- some claim of the wanted size, held for the duration from some minute of the request's window, fits beside all standing bookings
abbrev pub RoomFor : {L : Type 0} → Kind L → Book L → Request → Type 0
RoomFor {L} k ledger request = (s : ℕ) × (p : L) × (request.ready ≤ s) × (s + request.duration ≤ request.deadline) × (k.size p ≡ request.wanted) × FitsBeside k ledger.capacity (bookings ledger.rows) (booked request s p)

-- the feasible starts, and the rectangle of one
abbrev pub starts : {L : Type 0} → Kind L → Book L → Request → List ℕ
starts k ledger request = let bs = bookings ledger.rows in feasible k ledger.capacity (load_at k ledger.capacity bs) request (slot_list k ledger.capacity ledger.horizon bs)

abbrev pub rectangle_at : {L : Type 0} → Kind L → Book L → Request → ℕ → Rectangle
rectangle_at k ledger request = rectangle k ledger.capacity ledger.horizon (load_at k ledger.capacity (bookings ledger.rows)) request

-- the booking x that a hold is given under the number n: what was asked for, beside all that stands, at a feasible start to which none is preferred, the earliest of its equals
pub record Best {L : Type 0} (k : Kind L) (ledger : Book L) (request : Request) (policy : Preference) (n : ℕ) (x : Booking L) : Type 0 where
  pub asked : Askable ledger request
  pub number : n ≡ ledger.next
  pub size : k.size x.claim ≡ request.wanted
  pub lasts : x.end ≡ x.start + request.duration
  pub not_early : request.ready ≤ x.start
  pub in_time : x.end ≤ request.deadline
  pub fits : FitsBeside k ledger.capacity (bookings ledger.rows) x
  pub possible : In x.start (starts k ledger request)
  pub best : Unbettered policy (map (rectangle_at k ledger request) (starts k ledger request)) (rectangle_at k ledger request x.start)

-- the call is for the booking n
abbrev pub Concerns : {L : Type 0} → Call L → ℕ → Type 0
Concerns (hold request policy) n = ⊥
Concerns (move event m) n = m ≡ n

-- what a board promises beside the ledger of its line
pub record PromiseBeside {L : Type 0} (k : Kind L) (board : Holding L) (ledger : Book L) : Type 0 where
  -- ROWS: the board's numbers and rows are the ledger's, in order of number; the table answers every event
  pub book_is_ledger : board.book ≡ ledger
  pub numbers_ascend : Numbered 1 ledger.next ledger.rows
  pub numbers_fit : ledger.next ≤ 100000
  pub rows_suffice : length ledger.rows ≤ ledger.room
  pub moves_by_table : (event : Event) (r : Row L) → In r ledger.rows → answer k board (move event r.number) ≡ by_table event (fate event r.state)
  pub no_such_booking : (event : Event) (n : ℕ) → ((r : Row L) → In r ledger.rows → r.number ≢ n) → answer k board (move event n) ≡ refused (cond (by_token event) NotHeld NoSuchBooking)
  -- GAP: a hold is answered by the first check that applies; else it is given a booking, or told that there is no gap: exactly where no check applies and there is no room
  pub checks_first : (request : Request) (policy : Preference) (why : Refusal) → hold_check ledger request ≡ Some why → answer k board (hold request policy) ≡ refused why
  pub given_or_no_gap : (request : Request) (policy : Preference) → Askable ledger request → ((n : ℕ) × (x : Booking L) × (answer k board (hold request policy) ≡ given n x)) ⊎ (answer k board (hold request policy) ≡ refused NoGap)
  pub no_gap_is_no_room : (request : Request) (policy : Preference) → (answer k board (hold request policy) ≡ refused NoGap) ↔ (Askable ledger request × (RoomFor k ledger request → ⊥))
  -- BEST: what a hold is given is the best that there is by its policy; no two bookings clash, each fits beside all others, and at each minute what they take and what they leave free are all the units
  pub given_is_best : (request : Request) (policy : Preference) (n : ℕ) (x : Booking L) → answer k board (hold request policy) ≡ given n x → Best k ledger request policy n x
  pub none_clash : Sound k ledger.capacity (bookings ledger.rows)
  pub each_fits : (above below : List (Booking L)) (x : Booking L) → bookings ledger.rows ≡ above ++ (x ∷ below) → FitsBeside k ledger.capacity (above ++ below) x
  pub units_add_up : (m : ℕ) → taken k (standing (bookings ledger.rows) m) + k.free ledger.capacity (load_at k ledger.capacity (bookings ledger.rows) m) ≡ ledger.capacity
  pub all_end_in_time : Within ledger.horizon (bookings ledger.rows)
  -- SAME: the slot list is that of the ledger's bookings, and says their load at each minute; every line that leaves the same claims at each minute, each as often, leaves the same slot list; it is short
  pub slots_are_the_bookings : board.slots ≡ slot_list k ledger.capacity ledger.horizon (bookings ledger.rows)
  pub slots_say_the_loads : (m : ℕ) → at k.nothing board.slots m ≡ load_at k ledger.capacity (bookings ledger.rows) m
  pub same_claims_same_slots : (other : Line L) → ledger.capacity ≡ (ledger_of k other).capacity → ((m : ℕ) → Reordered (standing (bookings ledger.rows) m) (standing (bookings (ledger_of k other).rows) m)) → board.slots ≡ (board_of k other).slots
  pub slots_are_few : length board.slots ≤ 2 * length ledger.rows
  -- STAY: whatever call comes next, each entry but the one that it is for is there afterwards as it was; and what then stands under an entry's number has that entry's start, end and claim
  pub others_stay : (call : Call L) (r : Row L) → In r ledger.rows → (Concerns call r.number → ⊥) → In r (noted call (answer k board call) ledger).rows
  pub none_shifts : (call : Call L) (r s : Row L) → In r ledger.rows → In s (noted call (answer k board call) ledger).rows → s.number ≡ r.number → s.booking ≡ r.booking

-- at the end of the line, and so at each of its points
abbrev pub Promise : {L : Type 0} → Kind L → Line L → Type 0
Promise k line = PromiseBeside k (board_of k line) (ledger_of k line)

-- for every lawful kind, and every line of calls
abbrev pub LinesPromise : Type 0 → Type 0
LinesPromise L = (k : Kind L) → Lawful k → (line : Line L) → Promise k line
