-- A file that is taken over by a board with no bookings, or refused. Assumes nothing.
use Rattle.std.proofs.Common.{◌≡◌, ℕ, ◌≤◌, true, false, List, [], map, length, drop, is_err, Some, None, Ok, Err, Option, Result, sym, refl, ap, ◌∙◌, subst, ap₂, arith}
use Rattle.std.proofs.lemmas.List.{length-map}
use Rattle.std.specs.Option.{option_map}
use Rattle.std.specs.Simd.{first_chunks}
use Rattle.slots.specs.declared.slot.Slot.{Slot}
use Rattle.units.specs.Kinds.{Kind, Lawful}
use Rattle.bookings.specs.Refusals.{first_that_applies}
use Rattle.bookings.specs.Rows.{Numbered, with_rows}
use Rattle.bookings.specs.declared.refusal.FileFault.{FileFault}
use Rattle.bookings.specs.declared.refusal.Refusal.TheVariants.{File}
use Rattle.bookings.specs.declared.row.Row.{Row}
use Rattle.boardfile.specs.Faults.{header_checks, rows_fault, or_else, file_fault}
use Rattle.boardfile.specs.Files.{header_in, row_in, rows_in, book_in}
use Rattle.boardfile.specs.Filings.{Filing}
use Rattle.boardfile.specs.declared.header.Header.{Header}
use Rattle.boardfile.proofs.Rewritten.{length_rows_in}
use Rattle.board.specs.Adding.{NumbersFit, emptied}
use Rattle.board.specs.Calls.{Holding}
use Rattle.board.specs.Files.{load_refusal, load_check, load_answer, load_after, check_answer, unless, with_book}
use Rattle.board.specs.Keeping.{Kept}
use Rattle.board.specs.FileSteps.{fault_result, for_fault, headed}
use Rattle.board.specs.Results.{done_result}
use Rattle.board.proofs.Keeps.{emptied_kept}
use Rattle.board.proofs.Loads.{header_is_allowed}

-- the result of a walk over rows, by its test
told_done : (o : Option FileFault) (r : Result (Unit {0}) FileFault) → r ≡ fault_result o → false ≡ is_err r → (r ≡ Ok tt) × (o ≡ None)
told_done None r e t = (e, refl)
told_done (Some why) r e t = let z : false ≡ true = t ∙ ap is_err e in let y : ◌≡◌ {A = ℕ} 0 1 = cc in absurd (omega arith)

told_fault : (o : Option FileFault) (r : Result (Unit {0}) FileFault) → r ≡ fault_result o → true ≡ is_err r → (why : FileFault) × (o ≡ Some why)
told_fault None r e t = let z : true ≡ false = t ∙ ap is_err e in let y : ◌≡◌ {A = ℕ} 0 1 = cc in absurd (omega arith)
told_fault (Some why) r e t = (why, refl)

-- a board that keeps what boards keep has the slot list of its book
pub kept_whole : {L : Type 0} (k : Kind L) (floor : L) (board : Holding L) → Kept k floor board → board ≡ with_book k board.book
kept_whole {L} k floor board kept = ap (λ (xs : List (Slot L)). record { book = board.book; slots = xs }) kept.agree

module _ {L : Type 0} (k : Kind L) (f : Filing L) (board : Holding L) (bytes : List ℕ) (none : board.book.rows ≡ []) where
  abbrev room : ℕ
  room = board.book.room

  abbrev fault : Option FileFault
  fault = file_fault k f room bytes

  refusal_is : load_check k f board bytes ≡ option_map File fault
  refusal_is = ap (λ (rows : List (Row L)). load_refusal k f room rows bytes) none

  by_fault : (o : Option FileFault) → for_fault (fault_result o) ≡ done_result (check_answer {L = L} (option_map File o))
  by_fault None = refl
  by_fault (Some why) = refl

  answered : (r : Result (Unit {0}) FileFault) → r ≡ fault_result fault → for_fault r ≡ done_result (load_answer k f board bytes)
  answered r e = ap for_fault e ∙ by_fault fault ∙ ap (λ o. done_result (check_answer {L = L} o)) (sym refusal_is)

  abbrev new : Holding L
  new = with_book k (book_in f room bytes)

  accepted : fault ≡ None → new ≡ load_after k f board bytes
  accepted e = sym (ap (λ o. unless o new board) (refusal_is ∙ ap (option_map File) e))

  refused : (why : FileFault) → fault ≡ Some why → board ≡ load_after k f board bytes
  refused why e = sym (ap (λ o. unless o new board) (refusal_is ∙ ap (option_map File) e))

  -- a fault before the rows are read
  module _ (why : FileFault) (header-fault : first_that_applies (header_checks k f room bytes) ≡ Some why) where
    early : fault ≡ Some why
    early = ap (λ o. or_else o (rows_fault k (header_in bytes) 1 [] 0 (rows_in f bytes))) header-fault

    pub early_answer : (r : Result (Unit {0}) FileFault) → r ≡ Err why → for_fault r ≡ done_result (load_answer k f board bytes)
    early_answer r e = answered r (e ∙ ap fault_result (sym early))

    pub early_board : board ≡ load_after k f board bytes
    early_board = refused why early

  -- the header and the bytes of the rows
  module _ (header : Header) (cs : List (List ℕ)) (no_fault : first_that_applies (header_checks k f room bytes) ≡ None) (header_is : header ≡ header_in bytes) (cs-are : cs ≡ first_chunks 24 (header_in bytes).count (drop 24 bytes)) where
    rows_are : map (row_in f) cs ≡ rows_in f bytes
    rows_are = ap (map (row_in f)) cs-are

    fault_same : rows_fault k header 1 [] 0 (map (row_in f) cs) ≡ fault
    fault_same =
        ap₂ (λ (h : Header) (rows : List (Row L)). rows_fault k h 1 [] 0 rows) header_is rows_are
        ∙ sym (ap (λ o. or_else o (rows_fault k (header_in bytes) 1 [] 0 (rows_in f bytes))) no_fault)

    pub header_fits : NumbersFit k header.capacity header.horizon header.next
    header_fits =
        let a = header_is_allowed k f room bytes no_fault in
        subst (λ (h : Header). NumbersFit k h.capacity h.horizon h.next) (sym header_is) (record { capacity_fits = a.units_fit; horizon_fits = a.minutes_fit; horizon_open = λ _. a.some_minutes; next_starts = a.some_number; next_fits = a.numbers_fit })

    pub rows_fit : length cs ≤ room
    rows_fit = omega (arith, ap length cs-are, length-map (first_chunks 24 (header_in bytes).count (drop 24 bytes)) (row_in f), length_rows_in f bytes, (header_is_allowed k f room bytes no_fault).rows_fit)

    module _ (r : Result (Unit {0}) FileFault) (read : r ≡ fault_result (rows_fault k header 1 [] 0 (map (row_in f) cs))) where
      pub late_answer : for_fault r ≡ done_result (load_answer k f board bytes)
      late_answer = answered r (read ∙ ap fault_result fault_same)

      -- every row was read
      pub done_board : false ≡ is_err r → (floor : L) (is : Holding L) → Kept k floor is → (r ≡ Ok tt → is.book ≡ headed header room (map (row_in f) cs)) → is ≡ load_after k f board bytes
      done_board t floor is kept book =
          let d = told_done (rows_fault k header 1 [] 0 (map (row_in f) cs)) r read t in
          kept_whole k floor is kept
          ∙ ap (with_book k) (book d.0 ∙ ap₂ (λ (h : Header) (rows : List (Row L)). headed h room rows) header_is rows_are)
          ∙ accepted (sym fault_same ∙ d.1)

      -- some row was at fault, and the board is empty again
      pub fault_board : true ≡ is_err r → (is : Holding L) → is ≡ board → is ≡ load_after k f board bytes
      fault_board t is same =
          let d = told_fault (rows_fault k header 1 [] 0 (map (row_in f) cs)) r read t in
          same ∙ refused d.0 (sym fault_same ∙ d.1)

-- the board with its own numbers and no bookings is itself
module _ {L : Type 0} (k : Kind L) (lawful : Lawful k) (floor : L) (board : Holding L) (kept : Kept k floor board) (none : board.book.rows ≡ []) where
  pub own_fit : NumbersFit k board.book.capacity board.book.horizon board.book.next
  own_fit = record { capacity_fits = kept.capacity_fits; horizon_fits = kept.horizon_fits; horizon_open = kept.horizon_open; next_starts = subst (Numbered 1 board.book.next) none kept.numbers; next_fits = kept.next_fits }

  pub own_again : emptied board.book.capacity board.book.horizon board.book.room board.book.next ≡ board
  own_again =
      let b = board.book in
      kept_whole k floor (emptied b.capacity b.horizon b.room b.next) (emptied_kept k lawful floor b.capacity b.horizon b.room b.next kept.floor_is own_fit kept.room_fits)
      ∙ ap (λ (rows : List (Row L)). with_book k (with_rows rows b)) (sym none) ∙ sym (kept_whole k floor board kept)
