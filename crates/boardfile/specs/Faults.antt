-- What is wrong with a file: nothing in it is believed. Assumes nothing.
use Rattle.std.specs.Prelude.{ℕ, zero, suc, ◌-◌, Bool, true, false, cond, not, ◌&&◌, List, [], ◌∷◌, ◌++◌, length, Some, None, Option, ◌==◌, nat_le, nat_lt}
use Rattle.units.specs.Kinds.{Kind}
use Rattle.bookings.specs.Bookings.{load_at}
use Rattle.bookings.specs.Refusals.{first_that_applies}
use Rattle.bookings.specs.declared.booking.Booking.{Booking}
use Rattle.bookings.specs.declared.refusal.FileFault.{FileFault}
use Rattle.bookings.specs.declared.refusal.FileFault.TheVariants as fault
use Rattle.bookings.specs.declared.row.Row.{Row}
use Rattle.bookings.specs.declared.row.State.{State}
use Rattle.bookings.specs.declared.row.State.TheVariants.{Blank, Confirmed, UnderWay, Held}
use Rattle.boardfile.specs.Filings.{Filing}
use Rattle.boardfile.specs.Files.{header_in, rows_in, file_length}
use Rattle.boardfile.specs.declared.header.Header.{Header}

-- THE HEADER

-- from low to high
abbrev pub between : ℕ → ℕ → ℕ → Bool
between low high n = nat_le low n && nat_le n high

-- each field but the count has a value that is allowed
abbrev pub header_allowed : {L : Type 0} → Kind L → Filing L → Header → Bool
header_allowed k f header =
    (header.kind == f.code) &&
    (between 1 k.most header.capacity &&
    (between 1 1048576 header.horizon &&
    (between 1 100000 header.next &&
    (header.offset == 24))))

-- what stands against the file of a board with so many rows, before its rows are read
abbrev pub header_checks : {L : Type 0} → Kind L → Filing L → ℕ → List ℕ → List (Bool × FileFault)
header_checks k f room bs =
    let header = header_in bs in
    (nat_lt (length bs) 24, fault.Short) ∷
    (not (header_allowed k f header), fault.Header) ∷
    (not (length bs == file_length header.count), fault.Length) ∷
    (nat_lt room header.count, fault.Room) ∷
    []

-- THE ROWS

-- confirmed or under way
abbrev pub settled : State → Bool
settled Blank = false
settled Confirmed = true
settled UnderWay = true
settled Held = false

-- the row keeps the rules for rows, where the numbers from low on are to be had
abbrev pub row_allowed : {L : Type 0} → Kind L → Header → ℕ → Row L → Bool
row_allowed k header low r =
    let x = r.booking in
    nat_le low r.number &&
    (nat_lt r.number header.next &&
    (nat_lt x.start x.end &&
    (nat_le x.end header.horizon &&
    (settled r.state &&
    (nat_le 1 (k.size x.claim) &&
    k.clear header.capacity x.claim k.nothing)))))

-- the test holds at each of the n minutes from m on
abbrev pub throughout : (ℕ → Bool) → ℕ → ℕ → Bool
throughout test m zero = true
throughout test m (suc n) = test m && throughout test (suc m) n

-- at each of its minutes the booking's claim is clear of the load that the others make
abbrev pub fits_in : {L : Type 0} → Kind L → ℕ → List (Booking L) → Booking L → Bool
fits_in k c others x = throughout (λ m. k.clear c x.claim (load_at k c others m)) x.start (x.end - x.start)

-- the fault of the uppermost row that has one, where the numbers from low on are to be had, and these bookings stand in the i rows above
abbrev pub rows_fault : {L : Type 0} → Kind L → Header → ℕ → List (Booking L) → ℕ → List (Row L) → Option FileFault
rows_fault k header low above i [] = None
rows_fault k header low above i (r ∷ rows) =
    cond (row_allowed k header low r)
    (cond (fits_in k header.capacity above r.booking) (rows_fault k header (suc r.number) (above ++ (r.booking ∷ [])) (suc i) rows) (Some (fault.Clash i)))
    (Some (fault.Row i))

-- THE FILE

abbrev pub or_else : Option FileFault → Option FileFault → Option FileFault
or_else None other = other
or_else (Some why) other = Some why

-- the first fault of a file for a board with so many rows
abbrev pub file_fault : {L : Type 0} → Kind L → Filing L → ℕ → List ℕ → Option FileFault
file_fault k f room bs = or_else (first_that_applies (header_checks k f room bs)) (rows_fault k (header_in bs) 1 [] 0 (rows_in f bs))
