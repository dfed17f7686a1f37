-- The rows of a board: bookings under their numbers, and the book that they stand in. Assumes nothing.
use Rattle.std.specs.Prelude.{ℕ, suc, ◌≤◌, cond, List, [], ◌∷◌, ◌++◌, map, Some, None, Option, ◌==◌}
use Rattle.bookings.specs.declared.booking.Booking.{Booking}
use Rattle.bookings.specs.declared.row.Row.{Row}
use Rattle.bookings.specs.declared.row.State.{State}
use Rattle.bookings.specs.declared.row.State.TheVariants.{Blank}

abbrev pub row_of : {L : Type 0} → ℕ → Booking L → State → Row L
row_of n b s = record { number = n; booking = b; state = s }

-- a row that holds no booking: all zero, and nothing for its claim
abbrev pub blank_row : {L : Type 0} → L → Row L
blank_row nothing = row_of 0 (record { start = 0; end = 0; claim = nothing }) Blank

abbrev pub bookings : {L : Type 0} → List (Row L) → List (Booking L)
bookings rows = map (λ r. r.booking) rows

-- the rows' numbers ascend, from low on, and lie below the next
abbrev pub Numbered : {L : Type 0} → ℕ → ℕ → List (Row L) → Type 0
Numbered low next [] = low ≤ next
Numbered low next (r ∷ rows) = (low ≤ r.number) × Numbered (suc r.number) next rows

-- the row with that number, if there is one
abbrev pub numbered : {L : Type 0} → ℕ → List (Row L) → Option (Row L)
numbered n [] = None
numbered n (r ∷ rows) = cond (r.number == n) (Some r) (numbered n rows)

-- the rows with these in place of row n
abbrev pub replaced : {L : Type 0} → ℕ → List (Row L) → List (Row L) → List (Row L)
replaced n these [] = []
replaced n these (r ∷ rows) = cond (r.number == n) (these ++ rows) (r ∷ replaced n these rows)

pub record Book (L : Type 0) : Type 0 where
  -- how many units there are: 0 where the board is closed
  pub capacity : ℕ
  -- by when every booking ends
  pub horizon : ℕ
  -- how many bookings can stand at once
  pub room : ℕ
  -- the next booking's number
  pub next : ℕ
  pub rows : List (Row L)

-- the same book with other rows
abbrev pub with_rows : {L : Type 0} → List (Row L) → Book L → Book L
with_rows rows book = record { capacity = book.capacity; horizon = book.horizon; room = book.room; next = book.next; rows = rows }
