-- What the functions answer that read a file. Assumes nothing.
use Rattle.std.specs.Prelude.{◌≡◌, ℕ, true, false, cond, List, length, drop, Some, None, Ok, Err, Result, ◌==◌, nat_lt}
use Rattle.std.specs.Borrow.{Bor}
use Rattle.std.specs.Simd.{first_chunks}
use Rattle.units.specs.Kinds.{Kind}
use Rattle.bookings.specs.Refusals.{first_that_applies}
use Rattle.bookings.specs.declared.refusal.FileFault.{FileFault}
use Rattle.bookings.specs.declared.refusal.FileFault.TheVariants as fault
use Rattle.bookings.specs.declared.row.Row.{Row}
use Rattle.boardfile.specs.Filings.{Filing}
use Rattle.boardfile.specs.Files.{header_in, row_in, file_length}
use Rattle.boardfile.specs.Faults.{header_checks, row_allowed}
use Rattle.boardfile.specs.declared.header.Header.{Header}

-- the header that a file begins with
abbrev pub FirstHeader : List ℕ → Result Header FileFault → Type 0
FirstHeader bs (Ok header) = (nat_lt (length bs) 24 ≡ false) × (header ≡ header_in bs)
FirstHeader bs (Err why) = (nat_lt (length bs) 24 ≡ true) × (why ≡ fault.Short)

-- the bytes of each row behind the header, where there are as many as the count says and nothing is left over
abbrev pub RowsBehind : List ℕ → ℕ → Result (Bor (List (List ℕ))) FileFault → Type 0
RowsBehind bs count (Ok rows) = (length bs == file_length count ≡ true) × (rows.now ≡ first_chunks 24 count (drop 24 bs))
RowsBehind bs count (Err why) = (length bs == file_length count ≡ false) × (why ≡ fault.Length)

-- the header and the bytes of each row, where nothing stands against the file before its rows are read; or what does
abbrev pub Opens : {L : Type 0} → Kind L → Filing L → ℕ → List ℕ → Result (Header × Bor (List (List ℕ))) FileFault → Type 0
Opens k f room bs (Ok p) = (first_that_applies (header_checks k f room bs) ≡ None) × (p.0 ≡ header_in bs) × (p.1.now ≡ first_chunks 24 (header_in bs).count (drop 24 bs))
Opens k f room bs (Err why) = first_that_applies (header_checks k f room bs) ≡ Some why

-- the row that the bytes write, or the fault of the i-th row
abbrev pub read_row : {L : Type 0} → Kind L → Filing L → Header → ℕ → ℕ → List ℕ → Result (Row L) FileFault
read_row k f header low i bs = let r = row_in f bs in cond (row_allowed k header low r) (Ok r) (Err (fault.Row i))
