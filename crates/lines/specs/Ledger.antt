-- The ledger, kept beside a line from the calls' arguments and from what makings and holds are answered, and from no row or record of the board's. Assumes nothing.
use Rattle.std.specs.Prelude.{ℕ, suc, cond, List, [], ◌∷◌, ◌++◌, Some, None, Option, ◌==◌}
use Rattle.units.specs.Kinds.{Kind}
use Rattle.bookings.specs.Rows.{row_of, Book, with_rows}
use Rattle.bookings.specs.Table.{Fate, becomes, leaves, barred, fate}
use Rattle.bookings.specs.declared.event.Event.{Event}
use Rattle.bookings.specs.declared.refusal.Refusal.{Refusal}
use Rattle.bookings.specs.declared.row.Row.{Row}
use Rattle.bookings.specs.declared.row.State.TheVariants.{Held}
use Rattle.board.specs.Calls.{Call, hold, move, Answer, given, done, refused, set_up_check, answer}
use Rattle.lines.specs.Lines.{Line, make, ◌then◌, board_of}

-- no entries, by what stood against the making: the numbers that were asked for, or those of a closed board
abbrev pub started : {L : Type 0} → ℕ → ℕ → ℕ → Option Refusal → Book L
started c h rows None = record { capacity = c; horizon = h; room = rows; next = 1; rows = [] }
started c h rows (Some why) = record { capacity = 0; horizon = 0; room = 0; next = 1; rows = [] }

-- what is left of an entry by its fate
abbrev pub left_of : {L : Type 0} → Row L → Fate → List (Row L)
left_of r (becomes s) = row_of r.number r.booking s ∷ []
left_of r leaves = []
left_of r barred = r ∷ []

-- the entries after an event for the booking n: its entry is treated by the state table, and where there is none nothing changes
abbrev pub treated : {L : Type 0} → Event → ℕ → List (Row L) → List (Row L)
treated event n [] = []
treated event n (r ∷ entries) = cond (r.number == n) (left_of r (fate event r.state) ++ entries) (r ∷ treated event n entries)

-- a booking that is given is entered under its number, held
abbrev pub hold_noted : {L : Type 0} → Answer L → Book L → Book L
hold_noted (given n x) ledger = record {
  capacity = ledger.capacity;
  horizon = ledger.horizon;
  room = ledger.room;
  next = suc n;
  rows = ledger.rows ++ (row_of n x Held ∷ []);
}
hold_noted done ledger = ledger
hold_noted (refused why) ledger = ledger

-- the ledger after a call, from the call and what it was answered
abbrev pub noted : {L : Type 0} → Call L → Answer L → Book L → Book L
noted (hold request policy) told ledger = hold_noted told ledger
noted (move event n) told ledger = with_rows (treated event n ledger.rows) ledger

abbrev pub ledger_of : {L : Type 0} → Kind L → Line L → Book L
ledger_of k (make c h rows records) = started c h rows (set_up_check k c h rows records)
ledger_of k (line then call) = noted call (answer k (board_of k line) call) (ledger_of k line)
