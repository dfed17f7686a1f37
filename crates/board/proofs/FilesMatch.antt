-- Files and boards match: a saved board is loaded as its equal, and an accepted file is what the loaded board saves. Assumes nothing.
use Rattle.std.proofs.Common.{◌≡◌, ℕ, suc, ◌≤◌, true, false, eqb, List, [], ◌∷◌, length, Some, None, Option, sym, refl, ap, ◌∙◌, subst, arith}
use Rattle.std.proofs.lemmas.Bool.{both_ways, eqb-false, le-ltb, ne_eqb, or_from, or_parts}
use Rattle.std.specs.Option.{option_map}
use Rattle.std.specs.List.{AllByRecursion}
use Rattle.units.specs.Kinds.{Kind, Lawful}
use Rattle.bookings.specs.Bookings.{slot_list}
use Rattle.bookings.specs.Refusals.{first_that_applies}
use Rattle.bookings.specs.Rows.{Book, bookings}
use Rattle.bookings.specs.declared.booking.Booking.{Booking}
use Rattle.bookings.specs.declared.refusal.FileFault.TheVariants as fault
use Rattle.bookings.specs.declared.refusal.Refusal.{Refusal}
use Rattle.bookings.specs.declared.refusal.Refusal.TheVariants.{File}
use Rattle.bookings.specs.declared.row.Row.{Row}
use Rattle.bookings.specs.declared.row.State.{State}
use Rattle.bookings.specs.declared.row.State.TheVariants.{Blank, Confirmed, UnderWay, Held}
use Rattle.boardfile.specs.Bytes.{Bytes}
use Rattle.boardfile.specs.Faults.{settled, header_checks, row_allowed, fits_in, rows_fault, or_else, file_fault}
use Rattle.boardfile.specs.Files.{header_in, rows_in, book_in, file_length, header_of, file_of}
use Rattle.boardfile.specs.Filings.{Filing, Faithful}
use Rattle.boardfile.specs.declared.header.Header.{Header}
use Rattle.boardfile.proofs.ReadBack.{HeaderFits, RowFits, length_file, file_header, file_rows}
use Rattle.boardfile.proofs.Rewritten.{AllSettled, length_rows_in, file_again}
use Rattle.board.specs.Calls.{Holding, done}
use Rattle.board.specs.Files.{load_refusal, load_check, check_answer, load_answer, with_book, unless, load_after, is_held, some_held, save_checks, save_check, Equal}
use Rattle.board.specs.FileTheorems.{LoadedAgain, SavedLoads, SavedAgain, AcceptedIsSaved}
use Rattle.board.specs.Keeping.{AllProper, Kept}
use Rattle.board.proofs.Accepts.{header_passes, numbers_in_order, AllAllowed, all_allowed, rows_pass}
use Rattle.board.proofs.Admits.{row_is_allowed}
use Rattle.board.proofs.Checks.{none_applies, first_none}
use Rattle.board.proofs.Loads.{AllowedHeader, no_fault_here, neither, no_fault, header_of_accepted}

-- SETTLED ROWS

module _ {L : Type 0} where
  pub none_held : (rows : List (Row L)) → AllSettled rows → some_held rows ≡ false
  none_held [] all = refl
  none_held (r ∷ rows) all = or_from (is_held r.state) (some_held rows) (go r.state all.0) (none_held rows all.1)
    where
      go : (s : State) → settled s ≡ true → is_held s ≡ false
      go Blank t = refl
      go Confirmed t = refl
      go UnderWay t = refl
      go Held t = absurd (both_ways (settled Held) refl t)

  pub all_settled : (k : Kind L) (h : ℕ) (rows : List (Row L)) → AllProper k h rows → some_held rows ≡ false → AllSettled rows
  all_settled k h [] p e = tt
  all_settled k h (r ∷ rows) p e =
      let parts = or_parts (is_held r.state) (some_held rows) e in
      (go r.state p.0.not_blank parts.0, all_settled k h rows p.1 parts.1)
    where
      go : (s : State) → (s ≡ Blank → ⊥) → is_held s ≡ false → settled s ≡ true
      go Blank b t = absurd (b refl)
      go Confirmed b t = refl
      go UnderWay b t = refl
      go Held b t = absurd (both_ways (is_held Held) t refl)

-- WHAT IS SAVED IS LOADED

module _ {L : Type 0} (k : Kind L) (lawful : Lawful k) (f : Filing L) (faithful : Faithful k f) (saved into : Holding L) (kept : Kept k k.nothing saved) (memory : ℕ) (free : save_check saved.book memory ≡ None) (empty : into.book.rows ≡ []) (room : length saved.book.rows ≤ into.book.room) where
  abbrev book : Book L
  book = saved.book

  abbrev bytes : List ℕ
  bytes = file_of f book

  some_units : 1 ≤ book.capacity
  some_units =
      let parts = or_parts (eqb book.capacity 0) (some_held book.rows) (none_applies (save_checks book memory) free).0 in
      let o : (book.capacity ≡ 0 → ⊥) = eqb-false book.capacity 0 parts.0 in
      omega arith

  are_settled : AllSettled book.rows
  are_settled = all_settled k book.horizon book.rows kept.proper (or_parts (eqb book.capacity 0) (some_held book.rows) (none_applies (save_checks book memory) free).0).1

  are_allowed : AllAllowed k (header_of f book) 1 book.rows
  are_allowed = all_allowed k (header_of f book) (lawful book.capacity kept.capacity_fits) 1 [] book.rows kept.numbers kept.proper are_settled kept.sound

  header_fits : HeaderFits (header_of f book)
  header_fits = record {
    kind_fits = faithful.code_fits;
    capacity_fits = omega (arith, kept.capacity_fits, faithful.most_fits);
    horizon_fits = omega (arith, kept.horizon_fits);
    next_fits = omega (arith, kept.next_fits);
    count_fits = omega (arith, kept.rows_fit, kept.room_fits);
    offset_fits = omega arith;
  }

  rows_fit : (low : ℕ) (rows : List (Row L)) → AllAllowed k (header_of f book) low rows → AllByRecursion (RowFits f) rows
  rows_fit low [] a = tt
  rows_fit low (r ∷ rows) a = (
    record {
      number_fits = omega (arith, a.0.below_next, kept.next_fits);
      start_fits = omega (arith, a.0.has_minutes, a.0.ends_in_time, kept.horizon_fits);
      end_fits = omega (arith, a.0.ends_in_time, kept.horizon_fits);
      word_fits = faithful.word_fits book.capacity r.booking.claim k.nothing kept.capacity_fits a.0.clear_of_nothing;
      word_back = faithful.word_back r.booking.claim;
    },
    rows_fit (suc r.number) rows a.1,
  )

  header_is : header_in bytes ≡ header_of f book
  header_is = file_header f book header_fits

  rows_are : rows_in f bytes ≡ book.rows
  rows_are = file_rows f book header_fits (rows_fit 1 book.rows are_allowed)

  header_allowed : AllowedHeader k f into.book.room (length bytes) (header_of f book)
  header_allowed = record {
    kind_is = refl;
    some_units = some_units;
    units_fit = kept.capacity_fits;
    some_minutes = kept.horizon_open some_units;
    minutes_fit = kept.horizon_fits;
    some_number = numbers_in_order 1 book.next book.rows kept.numbers;
    numbers_fit = kept.next_fits;
    offset_is = refl;
    length_is = length_file f book;
    rows_fit = room;
  }

  faultless : file_fault k f into.book.room bytes ≡ None
  faultless =
      let header = header_passes k f into.book.room bytes (subst (AllowedHeader k f into.book.room (length bytes)) (sym header_is) header_allowed) in
      let rows = ap (λ h. rows_fault k h 1 [] 0 (rows_in f bytes)) header_is ∙ ap (rows_fault k (header_of f book) 1 [] 0) rows_are ∙ rows_pass k (header_of f book) 1 [] 0 book.rows are_allowed kept.sound in
      ap (λ o. or_else o (rows_fault k (header_in bytes) 1 [] 0 (rows_in f bytes))) header ∙ rows

  nothing_against : load_check k f into bytes ≡ None
  nothing_against = ap (λ rows. load_refusal k f into.book.room rows bytes) empty ∙ ap (option_map File) faultless

  same_board : Equal (with_book k (book_in f into.book.room bytes)) saved
  same_board = record {
    capacity_same = ap (λ h. h.capacity) header_is;
    horizon_same = ap (λ h. h.horizon) header_is;
    next_same = ap (λ h. h.next) header_is;
    rows_same = rows_are;
    slots_same = ap (λ h. slot_list k h.capacity h.horizon (bookings (rows_in f bytes))) header_is ∙ ap (λ rows. slot_list k book.capacity book.horizon (bookings rows)) rows_are ∙ sym kept.agree;
  }

  loaded_again : LoadedAgain k f saved into
  loaded_again = record {
    accepted = ap check_answer nothing_against;
    equal = subst (λ o. Equal (unless o (with_book k (book_in f into.book.room bytes)) into) saved) (sym nothing_against) same_board;
  }

pub saved_loads : {L : Type 0} → SavedLoads L
saved_loads = loaded_again

-- WHAT IS LOADED IS SAVED

module _ {L : Type 0} (k : Kind L) where
  faultless_settled : (header : Header) (low : ℕ) (above : List (Booking L)) (i : ℕ) (rows : List (Row L)) → rows_fault k header low above i rows ≡ None → AllSettled rows
  faultless_settled header low above i [] e = tt
  faultless_settled header low above i (r ∷ rows) e =
      let here = no_fault_here (row_allowed k header low r) (fits_in k header.capacity above r.booking) _ (fault.Clash i) (fault.Row i) e in
      ((row_is_allowed k header low r here.0).is_settled, faultless_settled header (suc r.number) _ (suc i) rows here.2)

  module _ (f : Filing L) (faithful : Faithful k f) (board : Holding L) (bytes : List ℕ) (are-bytes : Bytes bytes) (answered : load_answer k f board bytes ≡ done) where
    accepted : load_check k f board bytes ≡ None
    accepted = go (load_check k f board bytes) answered
      where
        go : (o : Option Refusal) → check_answer {L = L} o ≡ done → o ≡ None
        go None e = refl
        go (Some why) e = let z : ◌≡◌ {A = ℕ} 0 1 = cc in absurd (omega arith)

    no_fault_in : file_fault k f board.book.room bytes ≡ None
    no_fault_in = no_fault k f board.book.room board.book.rows bytes accepted

    header : AllowedHeader k f board.book.room (length bytes) (header_in bytes)
    header = header_of_accepted k f board.book.room bytes no_fault_in

    rows_settled : AllSettled (rows_in f bytes)
    rows_settled = faultless_settled (header_in bytes) 1 [] 0 (rows_in f bytes) (neither (first_that_applies (header_checks k f board.book.room bytes)) (rows_fault k (header_in bytes) 1 [] 0 (rows_in f bytes)) no_fault_in).1

    savable : (memory : ℕ) → length bytes ≤ memory → save_check (book_in f board.book.room bytes) memory ≡ None
    savable memory l =
        first_none (save_checks (book_in f board.book.room bytes) memory) (
          or_from (eqb (header_in bytes).capacity 0) (some_held (rows_in f bytes)) (ne_eqb (header_in bytes).capacity 0 (λ e. omega (arith, header.some_units))) (none_held (rows_in f bytes) rows_settled),
          (le-ltb memory (file_length (length (rows_in f bytes))) (omega (arith, l, header.length_is, length_rows_in f bytes)), tt),
        )

    saved_again : SavedAgain k f board bytes
    saved_again =
        let after : with_book k (book_in f board.book.room bytes) ≡ load_after k f board bytes = ap (λ o. unless o (with_book k (book_in f board.book.room bytes)) board) (sym accepted) in
        record {
          same_bytes = subst (λ b. file_of f b.book ≡ bytes) after (file_again f faithful.claim_back board.book.room bytes are-bytes header.length_is header.kind_is header.offset_is rows_settled);
          can_be_saved = λ memory l. subst (λ b. save_check b.book memory ≡ None) after (savable memory l);
        }

pub accepted_is_saved : {L : Type 0} → AcceptedIsSaved L
accepted_is_saved = saved_again
