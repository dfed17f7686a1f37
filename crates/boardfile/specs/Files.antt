-- A board file: a header of six numbers of 32 bits, and a row of 24 bytes for each standing booking. Assumes nothing.
use Rattle.std.specs.Prelude.{ℕ, ◌+◌, ◌*◌, cond, List, ◌++◌, map, length, drop, ◌==◌}
use Rattle.std.specs.Simd.{first_chunks}
use Rattle.std.specs.List.{flat_map}
use Rattle.bookings.specs.Rows.{row_of, Book}
use Rattle.bookings.specs.States.{state_number}
use Rattle.bookings.specs.declared.row.Row.{Row}
use Rattle.bookings.specs.declared.row.State.{State}
use Rattle.bookings.specs.declared.row.State.TheVariants.{Blank, Confirmed, UnderWay, Held}
use Rattle.boardfile.specs.Bytes.{written, number_at}
use Rattle.boardfile.specs.Filings.{Filing}
use Rattle.boardfile.specs.declared.header.Header.{Header}

-- READING

-- the state of that number, where a number that is no state's counts as blank
abbrev pub state_numbered : ℕ → State
state_numbered n = cond (n == 1) Confirmed (cond (n == 2) UnderWay (cond (n == 3) Held Blank))

-- the header that bytes begin with
abbrev pub header_in : List ℕ → Header
header_in bs = record {
  kind = number_at 0 4 bs;
  capacity = number_at 4 4 bs;
  horizon = number_at 8 4 bs;
  next = number_at 12 4 bs;
  count = number_at 16 4 bs;
  offset = number_at 20 4 bs;
}

-- the row that 24 bytes write
abbrev pub row_in : {L : Type 0} → Filing L → List ℕ → Row L
row_in f bs = row_of (number_at 0 4 bs) (record { start = number_at 4 4 bs; end = number_at 8 4 bs; claim = f.claim (number_at 16 8 bs) }) (state_numbered (number_at 12 4 bs))

-- the rows behind the header
abbrev pub rows_in : {L : Type 0} → Filing L → List ℕ → List (Row L)
rows_in f bs = map (row_in f) (first_chunks 24 (header_in bs).count (drop 24 bs))

-- the book that a file writes, on a board with so many rows
abbrev pub book_in : {L : Type 0} → Filing L → ℕ → List ℕ → Book L
book_in f room bs = let header = header_in bs in record { capacity = header.capacity; horizon = header.horizon; room = room; next = header.next; rows = rows_in f bs }

-- how many bytes a file with so many rows has
abbrev pub file_length : ℕ → ℕ
file_length count = 24 + 24 * count

-- WRITING

abbrev pub header_bytes : Header → List ℕ
header_bytes header = written 4 header.kind ++ (written 4 header.capacity ++ (written 4 header.horizon ++ (written 4 header.next ++ (written 4 header.count ++ written 4 header.offset))))

abbrev pub row_bytes : {L : Type 0} → Filing L → Row L → List ℕ
row_bytes f r = written 4 r.number ++ (written 4 r.booking.start ++ (written 4 r.booking.end ++ (written 4 (state_number r.state) ++ written 8 (f.word r.booking.claim))))

-- the header of a book's file
abbrev pub header_of : {L : Type 0} → Filing L → Book L → Header
header_of f book = record { kind = f.code; capacity = book.capacity; horizon = book.horizon; next = book.next; count = length book.rows; offset = 24 }

-- the file of a book
abbrev pub file_of : {L : Type 0} → Filing L → Book L → List ℕ
file_of f book = header_bytes (header_of f book) ++ flat_map (row_bytes f) book.rows
