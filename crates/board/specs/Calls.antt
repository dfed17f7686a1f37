-- The calls of a board: what each answers, and the board that it leaves. Assumes nothing.
use Rattle.std.specs.Prelude.{ℕ, suc, ◌+◌, ◌*◌, ◌<◌, ◌≤◌, Bool, not, ◌||◌, List, [], ◌∷◌, ◌++◌, length, Some, None, Option, ◌==◌, nat_le, nat_lt}
use Rattle.slots.specs.Stepped.{at, edited}
use Rattle.slots.specs.declared.slot.Slot.{Slot}
use Rattle.units.specs.Kinds.{Kind}
use Rattle.planning.specs.Requests.{enough}
use Rattle.planning.specs.Policies.{Preference, found}
use Rattle.planning.specs.declared.request.Request.{Request}
use Rattle.bookings.specs.Rows.{row_of, Book, with_rows, numbered, replaced}
use Rattle.bookings.specs.Table.{Fate, becomes, leaves, barred, fate}
use Rattle.bookings.specs.Grants.{booking_of}
use Rattle.bookings.specs.Refusals.{first_that_applies}
use Rattle.bookings.specs.declared.booking.Booking.{Booking}
use Rattle.bookings.specs.declared.event.Event.{Event}
use Rattle.bookings.specs.declared.event.Event.TheVariants.{Confirm, Release, Cancel, Begin, Finish}
use Rattle.bookings.specs.declared.refusal.Refusal.{Refusal}
use Rattle.bookings.specs.declared.refusal.Refusal.TheVariants.{Capacity, Horizon, Memory, Duration, Wanted, Window, Full, NumbersUsedUp, NoGap, NotHeld, NoSuchBooking, WrongState}
use Rattle.bookings.specs.declared.row.Row.{Row}
use Rattle.bookings.specs.declared.row.State.{State}
use Rattle.bookings.specs.declared.row.State.TheVariants.{Held}

-- what a board holds: its book, and its slot list
pub record Holding (L : Type 0) : Type 0 where
  pub book : Book L
  pub slots : List (Slot L)

pub data Call (L : Type 0) : Type 0 where
  hold : Request → Preference → Call L
  move : Event → ℕ → Call L

pub data Answer (L : Type 0) : Type 0 where
  -- the number, and the booking under it
  given : ℕ → Booking L → Answer L
  done : Answer L
  refused : Refusal → Answer L

-- the first of the checks that applies
abbrev pub first_check : List (Bool × Refusal) → Option Refusal
first_check = first_that_applies

-- MAKING

-- what stands against a board of c units, for bookings that end by h, with so many rows and slot records lent
abbrev pub set_up_checks : {L : Type 0} → Kind L → ℕ → ℕ → ℕ → ℕ → List (Bool × Refusal)
set_up_checks k c h rows records =
    (c == 0 || nat_lt k.most c, Capacity) ∷
    (h == 0 || nat_lt 1048576 h, Horizon) ∷
    (rows == 0 || (nat_lt 256 rows || nat_lt records (2 * rows)), Memory) ∷
    []

abbrev pub set_up_check : {L : Type 0} → Kind L → ℕ → ℕ → ℕ → ℕ → Option Refusal
set_up_check k c h rows records = first_check (set_up_checks k c h rows records)

-- a board with no bookings: open, or closed where a check applies
abbrev pub opened : {L : Type 0} → ℕ → ℕ → ℕ → Holding L
opened c h room = record { book = record { capacity = c; horizon = h; room = room; next = 1; rows = [] }; slots = [] }

abbrev pub made : {L : Type 0} → Kind L → ℕ → ℕ → ℕ → ℕ → Holding L
made k c h rows records = elim (set_up_check k c h rows records) [ None ↦ opened c h rows | Some _ ↦ opened 0 0 0 ]

-- HOLD

-- what stands against a hold, before any search
abbrev pub hold_checks : {L : Type 0} → Book L → Request → List (Bool × Refusal)
hold_checks book request =
    ((request.duration == 0), Duration) ∷
    (request.wanted == 0 || not (enough request.wanted book.capacity), Wanted) ∷
    (nat_lt book.horizon request.deadline || nat_lt request.deadline (request.ready + request.duration), Window) ∷
    (nat_le book.room (length book.rows), Full) ∷
    (nat_lt 99999 book.next, NumbersUsedUp) ∷
    []

abbrev pub hold_check : {L : Type 0} → Book L → Request → Option Refusal
hold_check book request = first_check (hold_checks book request)

-- none of these stands against it
pub record Askable {L : Type 0} (book : Book L) (request : Request) : Type 0 where
  pub some_minutes : 1 ≤ request.duration
  pub some_units : 1 ≤ request.wanted
  pub no_more_than_there_are : request.wanted ≤ book.capacity
  pub by_the_horizon : request.deadline ≤ book.horizon
  pub a_window : request.ready + request.duration ≤ request.deadline
  pub a_row_left : length book.rows < book.room
  pub a_number_left : book.next ≤ 99999

-- the booking that the search comes to, by what the slot list says
abbrev pub found_on : {L : Type 0} → Kind L → Holding L → Request → Preference → Option (Booking L)
found_on k board request policy = booking_of request (found k board.book.capacity policy board.book.horizon (at k.nothing board.slots) request board.slots)

-- the booking under the next number, held, below the other rows
abbrev pub entered : {L : Type 0} → Booking L → Book L → Book L
entered x book = record {
  capacity = book.capacity;
  horizon = book.horizon;
  room = book.room;
  next = suc book.next;
  rows = book.rows ++ (row_of book.next x Held ∷ []);
}

abbrev pub with_booking : {L : Type 0} → Kind L → Holding L → Booking L → Holding L
with_booking k board x = record {
  book = entered x board.book;
  slots = edited k.same (k.put board.book.capacity x.claim) x.start x.end k.nothing board.slots;
}

-- CONFIRM, RELEASE, CANCEL, BEGIN, FINISH

-- the refusal where there is no such row, and where its state bars the event
abbrev pub no_row : Event → Refusal
no_row Confirm = NotHeld
no_row Release = NotHeld
no_row Cancel = NoSuchBooking
no_row Begin = NoSuchBooking
no_row Finish = NoSuchBooking

abbrev pub wrong_state : Event → Refusal
wrong_state Confirm = NotHeld
wrong_state Release = NotHeld
wrong_state Cancel = WrongState
wrong_state Begin = WrongState
wrong_state Finish = WrongState

abbrev pub with_state : {L : Type 0} → Holding L → ℕ → Row L → State → Holding L
with_state board n r s = record {
  book = with_rows (replaced n (row_of r.number r.booking s ∷ []) board.book.rows) board.book;
  slots = board.slots;
}

abbrev pub without_row : {L : Type 0} → Kind L → Holding L → ℕ → Row L → Holding L
without_row k board n r = record {
  book = with_rows (replaced n [] board.book.rows) board.book;
  slots = edited k.same (k.lift r.booking.claim) r.booking.start r.booking.end k.nothing board.slots;
}

-- ALL CALLS

-- by the first check that applies, or by what the search finds
abbrev pub hold_answer : {L : Type 0} → Holding L → Option Refusal → Option (Booking L) → Answer L
hold_answer board (Some why) x = refused why
hold_answer board None None = refused NoGap
hold_answer board None (Some x) = given board.book.next x

abbrev pub hold_after : {L : Type 0} → Kind L → Holding L → Option Refusal → Option (Booking L) → Holding L
hold_after k board (Some why) x = board
hold_after k board None None = board
hold_after k board None (Some x) = with_booking k board x

-- by the row of that number, and what the table says of it
abbrev pub fate_answer : {L : Type 0} → Event → Fate → Answer L
fate_answer event (becomes s) = done
fate_answer event leaves = done
fate_answer event barred = refused (wrong_state event)

abbrev pub move_answer : {L : Type 0} → Event → Option (Row L) → Answer L
move_answer event None = refused (no_row event)
move_answer event (Some r) = fate_answer event (fate event r.state)

abbrev pub fate_after : {L : Type 0} → Kind L → Holding L → ℕ → Row L → Fate → Holding L
fate_after k board n r (becomes s) = with_state board n r s
fate_after k board n r leaves = without_row k board n r
fate_after k board n r barred = board

abbrev pub move_after : {L : Type 0} → Kind L → Holding L → Event → ℕ → Option (Row L) → Holding L
move_after k board event n None = board
move_after k board event n (Some r) = fate_after k board n r (fate event r.state)

abbrev pub answer : {L : Type 0} → Kind L → Holding L → Call L → Answer L
answer k board (hold request policy) = hold_answer board (hold_check board.book request) (found_on k board request policy)
answer k board (move event n) = move_answer event (numbered n board.book.rows)

abbrev pub after : {L : Type 0} → Kind L → Holding L → Call L → Holding L
after k board (hold request policy) = hold_after k board (hold_check board.book request) (found_on k board request policy)
after k board (move event n) = move_after k board event n (numbered n board.book.rows)
