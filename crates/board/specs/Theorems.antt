-- What every call keeps. Assumes nothing.
use Rattle.std.specs.Prelude.{◌≡◌, ℕ, ◌⊎◌}
use Rattle.units.specs.Kinds.{Kind, Lawful}
use Rattle.slots.specs.Lists.{In}
use Rattle.bookings.specs.declared.row.Row.{Row}
use Rattle.board.specs.Calls.{Holding, Call, hold, move, made, after}
use Rattle.board.specs.Keeping.{Kept}

-- A new board keeps what boards keep, whatever the numbers, and so does any board after any call.
pub record CallsKeep (L : Type 0) : Type 0 where
  pub new : (k : Kind L) → Lawful k → (c h rows records : ℕ) → Kept k k.nothing (made k c h rows records)
  pub next : (k : Kind L) → Lawful k → (board : Holding L) → Kept k k.nothing board → (call : Call L) → Kept k k.nothing (after k board call)

-- the call is a move of the booking under that number
abbrev pub Moves : {L : Type 0} → Call L → ℕ → Type 0
Moves (hold request policy) n = ⊥
Moves (move event m) n = m ≡ n

-- Granted bookings stay put: a call leaves every row that it does not move as it was; and a row that stands after a call stood before, under the same number with the same start, end and claim, or is the one that the call has granted, under the next number.
pub record StayPut (L : Type 0) : Type 0 where
  pub others_stay : (k : Kind L) (board : Holding L) (call : Call L) (r : Row L) → In r board.book.rows → (Moves call r.number → ⊥) → In r (after k board call).book.rows
  pub none_changes : (k : Kind L) (board : Holding L) (call : Call L) (r : Row L) → In r (after k board call).book.rows → (r.number ≡ board.book.next) ⊎ ((s : Row L) × In s board.book.rows × (s.number ≡ r.number) × (s.booking ≡ r.booking))
