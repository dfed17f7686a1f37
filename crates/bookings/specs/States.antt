-- The states of a row, each by its number. Assumes nothing.
use Rattle.std.specs.Prelude.{ℕ, cond, Ok, Err, Result, ◌==◌}
use Rattle.bookings.specs.declared.row.State.{State}
use Rattle.bookings.specs.declared.row.State.TheVariants.{Blank, Confirmed, UnderWay, Held}
use Rattle.bookings.specs.declared.row.UnknownState.{UnknownState}

abbrev pub state_number : State → ℕ
state_number Blank = 0
state_number Confirmed = 1
state_number UnderWay = 2
state_number Held = 3

-- the state of that number, if there is one
abbrev pub state_of : ℕ → Result State UnknownState
state_of n = cond (n == 0) (Ok Blank) (cond (n == 1) (Ok Confirmed) (cond (n == 2) (Ok UnderWay) (cond (n == 3) (Ok Held) (Err (record { 0 = n })))))
