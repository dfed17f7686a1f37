-- A row that may be added to a board, the board with it, and boards with no bookings. Assumes nothing.
use Rattle.std.specs.Prelude.{ℕ, ◌<◌, ◌≤◌, [], ◌∷◌, ◌++◌, length}
use Rattle.slots.specs.Stepped.{edited}
use Rattle.units.specs.Kinds.{Kind}
use Rattle.bookings.specs.Rows.{Numbered}
use Rattle.bookings.specs.declared.row.Row.{Row}
use Rattle.board.specs.Calls.{Holding}
use Rattle.board.specs.Keeping.{Proper}

-- the row may be entered below the others, if its booking fits beside theirs, and the next number is then that one
pub record MayEnter {L : Type 0} (k : Kind L) (board : Holding L) (next : ℕ) (r : Row L) : Type 0 where
  pub a_row_left : length board.book.rows < board.book.room
  pub numbers : Numbered 1 r.number board.book.rows
  pub below_next : r.number < next
  pub next_fits : next ≤ 100000
  pub proper : Proper k board.book.horizon r

-- the board with that row below the others, its claim put on over its minutes, and that next number
abbrev pub with_row : {L : Type 0} → Kind L → Holding L → ℕ → Row L → Holding L
with_row k board next r =
    let book = board.book in
    let x = r.booking in
    record {
      book = record { capacity = book.capacity; horizon = book.horizon; room = book.room; next = next; rows = book.rows ++ (r ∷ []) };
      slots = edited k.same (k.put book.capacity x.claim) x.start x.end k.nothing board.slots;
    }

-- a board may have these numbers
pub record NumbersFit {L : Type 0} (k : Kind L) (c h next : ℕ) : Type 0 where
  pub capacity_fits : c ≤ k.most
  pub horizon_fits : h ≤ 1048576
  pub horizon_open : 1 ≤ c → 1 ≤ h
  pub next_starts : 1 ≤ next
  pub next_fits : next ≤ 100000

-- a board with them and no bookings
abbrev pub emptied : {L : Type 0} → ℕ → ℕ → ℕ → ℕ → Holding L
emptied c h room next = record { book = record { capacity = c; horizon = h; room = room; next = next; rows = [] }; slots = [] }
