-- Loading a board from a file, and saving it: what is answered, and what is left. Assumes nothing.
use Rattle.std.specs.Prelude.{◌≡◌, ℕ, Bool, true, false, ◌||◌, List, [], ◌∷◌, ◌++◌, length, drop, Some, None, Ok, Err, Option, Result, ◌==◌, nat_lt}
use Rattle.std.specs.Option.{option_map}
use Rattle.units.specs.Kinds.{Kind}
use Rattle.bookings.specs.Bookings.{slot_list}
use Rattle.bookings.specs.Refusals.{first_that_applies}
use Rattle.bookings.specs.Rows.{Book, bookings}
use Rattle.bookings.specs.declared.refusal.Refusal.{Refusal}
use Rattle.bookings.specs.declared.refusal.Refusal.TheVariants.{BookingStands, File, NotSettled, Buffer}
use Rattle.bookings.specs.declared.row.Row.{Row}
use Rattle.bookings.specs.declared.row.State.{State}
use Rattle.bookings.specs.declared.row.State.TheVariants.{Blank, Confirmed, UnderWay, Held}
use Rattle.boardfile.specs.Filings.{Filing}
use Rattle.boardfile.specs.Files.{book_in, file_length, file_of}
use Rattle.boardfile.specs.Faults.{file_fault}
use Rattle.board.specs.Calls.{Holding, Answer, done, refused}

-- LOAD

-- what stands against loading: a booking that stands, or else a fault of the file
abbrev pub load_refusal : {L : Type 0} → Kind L → Filing L → ℕ → List (Row L) → List ℕ → Option Refusal
load_refusal k f room [] bytes = option_map File (file_fault k f room bytes)
load_refusal k f room (r ∷ rows) bytes = Some BookingStands

abbrev pub load_check : {L : Type 0} → Kind L → Filing L → Holding L → List ℕ → Option Refusal
load_check k f board bytes = load_refusal k f board.book.room board.book.rows bytes

-- the board with that book, and the slot list of its bookings
abbrev pub with_book : {L : Type 0} → Kind L → Book L → Holding L
with_book k book = record { book = book; slots = slot_list k book.capacity book.horizon (bookings book.rows) }

abbrev pub check_answer : {L : Type 0} → Option Refusal → Answer L
check_answer None = done
check_answer (Some why) = refused why

abbrev pub unless : {A : Type 0} → Option Refusal → A → A → A
unless None new old = new
unless (Some why) new old = old

abbrev pub load_answer : {L : Type 0} → Kind L → Filing L → Holding L → List ℕ → Answer L
load_answer k f board bytes = check_answer (load_check k f board bytes)

-- an accepted file's book, and its slot list; a refused load changes nothing
abbrev pub load_after : {L : Type 0} → Kind L → Filing L → Holding L → List ℕ → Holding L
load_after k f board bytes = unless (load_check k f board bytes) (with_book k (book_in f board.book.room bytes)) board

-- SAVE

-- some row is held
abbrev pub is_held : State → Bool
is_held Blank = false
is_held Confirmed = false
is_held UnderWay = false
is_held Held = true

abbrev pub some_held : {L : Type 0} → List (Row L) → Bool
some_held [] = false
some_held (r ∷ rows) = is_held r.state || some_held rows

-- what stands against saving into so many bytes
abbrev pub save_checks : {L : Type 0} → Book L → ℕ → List (Bool × Refusal)
save_checks book memory =
    (book.capacity == 0 || some_held book.rows, NotSettled) ∷
    (nat_lt memory (file_length (length book.rows)), Buffer) ∷
    []

abbrev pub save_check : {L : Type 0} → Book L → ℕ → Option Refusal
save_check book memory = first_that_applies (save_checks book memory)

-- how many bytes were written, or the refusal
abbrev pub written_result : ℕ → Option Refusal → Result ℕ Refusal
written_result n None = Ok n
written_result n (Some why) = Err why

abbrev pub save_result : {L : Type 0} → Book L → ℕ → Result ℕ Refusal
save_result book memory = written_result (file_length (length book.rows)) (save_check book memory)

-- the memory then: the file, and the bytes behind it as they were; a refusal leaves it all
abbrev pub save_leaves : {L : Type 0} → Filing L → Book L → List ℕ → List ℕ
save_leaves f book memory = unless (save_check book (length memory)) (file_of f book ++ drop (file_length (length book.rows)) memory) memory

-- EQUAL BOARDS

-- boards of one kind are equal but for the room that they have
pub record Equal {L : Type 0} (a b : Holding L) : Type 0 where
  pub capacity_same : a.book.capacity ≡ b.book.capacity
  pub horizon_same : a.book.horizon ≡ b.book.horizon
  pub next_same : a.book.next ≡ b.book.next
  pub rows_same : a.book.rows ≡ b.book.rows
  pub slots_same : a.slots ≡ b.slots
