-- Steps of a load and of a save, and what they return. Assumes nothing.
use Rattle.std.specs.Prelude.{ℕ, List, ◌++◌, length, take, drop, Some, None, Ok, Err, Option, Result}
use Rattle.std.specs.List.{flat_map}
use Rattle.bookings.specs.Rows.{Book}
use Rattle.bookings.specs.declared.refusal.FileFault.{FileFault}
use Rattle.bookings.specs.declared.refusal.Refusal.{Refusal}
use Rattle.bookings.specs.declared.refusal.Refusal.TheVariants.{File}
use Rattle.bookings.specs.declared.row.Row.{Row}
use Rattle.boardfile.specs.Files.{file_length, header_bytes, row_bytes}
use Rattle.boardfile.specs.Filings.{Filing}
use Rattle.boardfile.specs.declared.header.Header.{Header}

-- none, or the fault
abbrev pub fault_result : Option FileFault → Result (Unit {0}) FileFault
fault_result None = Ok tt
fault_result (Some why) = Err why

-- the fault as a refusal
abbrev pub for_fault : Result (Unit {0}) FileFault → Result (Unit {0}) Refusal
for_fault (Ok _) = Ok tt
for_fault (Err why) = Err (File why)

-- a book with the header's numbers
abbrev pub headed : {L : Type 0} → Header → ℕ → List (Row L) → Book L
headed header room rows = record { capacity = header.capacity; horizon = header.horizon; room = room; next = header.next; rows = rows }

-- the memory with rows written behind the first 24 bytes
abbrev pub rows_over : {L : Type 0} → Filing L → List (Row L) → List ℕ → List ℕ
rows_over f rows memory = (take 24 memory ++ flat_map (row_bytes f) rows) ++ drop (file_length (length rows)) memory

-- the memory with a header and rows written over its front
abbrev pub file_over : {L : Type 0} → Filing L → Header → List (Row L) → List ℕ → List ℕ
file_over f header rows memory = (header_bytes header ++ flat_map (row_bytes f) rows) ++ drop (file_length (length rows)) memory
