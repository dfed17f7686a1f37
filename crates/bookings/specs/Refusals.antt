-- The refusals, the number of each, and how the first of several checks decides. Assumes nothing.
use Rattle.std.specs.Prelude.{ℕ, Bool, cond, List, [], ◌∷◌, Some, None, Option}
use Rattle.bookings.specs.declared.refusal.FileFault.{FileFault}
use Rattle.bookings.specs.declared.refusal.FileFault.TheVariants as fault
use Rattle.bookings.specs.declared.refusal.Refusal.{Refusal}
use Rattle.bookings.specs.declared.refusal.Refusal.TheVariants.{Capacity, Horizon, Memory, Duration, Wanted, Window, Full, NumbersUsedUp, NoGap, NotHeld, NoSuchBooking, WrongState, BookingStands, File, NotSettled, Buffer, BadLine, SheetTooLong}

abbrev pub fault_number : FileFault → ℕ
fault_number fault.Short = 14
fault_number fault.Header = 15
fault_number fault.Length = 16
fault_number fault.Room = 17
fault_number (fault.Row i) = 18
fault_number (fault.Clash i) = 19

abbrev pub number : Refusal → ℕ
number Capacity = 1
number Horizon = 2
number Memory = 3
number Duration = 4
number Wanted = 5
number Window = 6
number Full = 7
number NumbersUsedUp = 8
number NoGap = 9
number NotHeld = 10
number NoSuchBooking = 11
number WrongState = 12
number BookingStands = 13
number (File why) = fault_number why
number NotSettled = 20
number Buffer = 21
number BadLine = 22
number SheetTooLong = 23

-- the first of the checks that applies
abbrev pub first_that_applies : {Why : Type 0} → List (Bool × Why) → Option Why
first_that_applies [] = None
first_that_applies (check ∷ checks) = cond check.0 (Some check.1) (first_that_applies checks)
