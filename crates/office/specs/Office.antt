-- What another program is told of a board file: whether it is sound, and how many units are free at a minute. Assumes nothing.
use Rattle.std.specs.Prelude.{ℕ, cond, List, Some, None, Option, ◌==◌, nat_lt}
use Rattle.units.specs.Crews.{crew_kind}
use Rattle.units.specs.Kinds.{Kind}
use Rattle.units.specs.Stocks.{stock_kind}
use Rattle.bookings.specs.Bookings.{load_at}
use Rattle.bookings.specs.Refusals.{fault_number}
use Rattle.bookings.specs.Rows.{Book, bookings}
use Rattle.bookings.specs.declared.refusal.FileFault.{FileFault}
use Rattle.boardfile.specs.Bytes.{number_at}
use Rattle.boardfile.specs.Faults.{file_fault}
use Rattle.boardfile.specs.Files.{book_in}
use Rattle.boardfile.specs.Filings.{Filing, crew_filing, stock_filing}

-- how many rows a file may have
abbrev pub rows_allowed : ℕ
rows_allowed = 256

-- 0 where there is no fault, else its number
abbrev pub fault_code : Option FileFault → ℕ
fault_code None = 0
fault_code (Some why) = fault_number why

abbrev pub check_as : {L : Type 0} → Kind L → Filing L → List ℕ → ℕ
check_as k f bytes = fault_code (file_fault k f rows_allowed bytes)

-- what stands for no answer
abbrev pub no_answer : ℕ
no_answer = 4294967295

-- the units of a book that are free at a minute before its horizon
abbrev pub free_in : {L : Type 0} → Kind L → Book L → ℕ → ℕ
free_in k book minute = cond (nat_lt minute book.horizon) (k.free book.capacity (load_at k book.capacity (bookings book.rows) minute)) no_answer

-- the same of a file's book, where nothing is wrong with the file
abbrev pub free_by : {L : Type 0} → Kind L → Book L → ℕ → Option FileFault → ℕ
free_by k book minute None = free_in k book minute
free_by k book minute (Some why) = no_answer

abbrev pub free_as : {L : Type 0} → Kind L → Filing L → List ℕ → ℕ → ℕ
free_as k f bytes minute = free_by k (book_in f rows_allowed bytes) minute (file_fault k f rows_allowed bytes)

-- a file is read as its own kind: stock where it says so, and else crew, which then refuses a number that is neither's
abbrev pub file_check : List ℕ → ℕ
file_check bytes = cond (number_at 0 4 bytes == stock_filing.code) (check_as stock_kind stock_filing bytes) (check_as crew_kind crew_filing bytes)

abbrev pub file_free : List ℕ → ℕ → ℕ
file_free bytes minute = cond (number_at 0 4 bytes == stock_filing.code) (free_as stock_kind stock_filing bytes minute) (free_as crew_kind crew_filing bytes minute)
