-- Both answers on a file at once, and the numbers that they are told as. Assumes nothing.
use Rattle.std.specs.Prelude.{ℕ, cond, List, Some, None, Ok, Err, Option, Result, ◌==◌, nat_lt}
use Rattle.std.specs.Option.{unwrap_or}
use Rattle.std.specs.Result.{result_unwrap_or}
use Rattle.units.specs.Crews.{crew_kind}
use Rattle.units.specs.Kinds.{Kind}
use Rattle.units.specs.Stocks.{stock_kind}
use Rattle.bookings.specs.Bookings.{load_at}
use Rattle.bookings.specs.Refusals.{number}
use Rattle.bookings.specs.Rows.{Book, bookings}
use Rattle.bookings.specs.declared.refusal.FileFault.{FileFault}
use Rattle.bookings.specs.declared.refusal.Refusal.{Refusal}
use Rattle.bookings.specs.declared.refusal.Refusal.TheVariants.{File}
use Rattle.boardfile.specs.Bytes.{number_at}
use Rattle.boardfile.specs.Faults.{file_fault}
use Rattle.boardfile.specs.Files.{book_in}
use Rattle.boardfile.specs.Filings.{Filing, crew_filing, stock_filing}
use Rattle.office.specs.Office.{rows_allowed, no_answer}

-- the units of a book that are free at a minute, if that is before its horizon
abbrev pub free_before : {L : Type 0} → Kind L → Book L → ℕ → Option ℕ
free_before k book minute = cond (nat_lt minute book.horizon) (Some (k.free book.capacity (load_at k book.capacity (bookings book.rows) minute))) None

-- the same of a file's book, where nothing is wrong with the file
abbrev pub told_by : {L : Type 0} → Kind L → Book L → ℕ → Option FileFault → Result (Option ℕ) Refusal
told_by k book minute None = Ok (free_before k book minute)
told_by k book minute (Some why) = Err (File why)

abbrev pub told_as : {L : Type 0} → Kind L → Filing L → List ℕ → ℕ → Result (Option ℕ) Refusal
told_as k f bytes minute = told_by k (book_in f rows_allowed bytes) minute (file_fault k f rows_allowed bytes)

-- a file by its own kind
abbrev pub file_told : List ℕ → ℕ → Result (Option ℕ) Refusal
file_told bytes minute = cond (number_at 0 4 bytes == stock_filing.code) (told_as stock_kind stock_filing bytes minute) (told_as crew_kind crew_filing bytes minute)

-- 0, or the number of the refusal
abbrev pub check_of : Result (Option ℕ) Refusal → ℕ
check_of (Ok free) = 0
check_of (Err why) = number why

-- the units that are free, or what stands for no answer
abbrev pub free_of : Result (Option ℕ) Refusal → ℕ
free_of told = unwrap_or (result_unwrap_or told None) no_answer
