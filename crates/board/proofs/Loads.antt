-- The rows of an accepted file are proper, sound and in order, so a load keeps what boards keep. Assumes nothing.
use Rattle.std.proofs.Common.{◌≡◌, ℕ, suc, ◌≤◌, Bool, true, false, cond, eqb, leb, List, [], ◌∷◌, ◌++◌, length, Some, None, Option, sym, refl, subst, append_assoc, append-nil, arith}
use Rattle.std.proofs.lemmas.Bool.{ltb-false, leb-true, eqb-true, and_parts, not-false}
use Rattle.std.specs.Option.{option_map}
use Rattle.units.specs.Kinds.{Kind, Laws, Lawful}
use Rattle.bookings.specs.Bookings.{Sound}
use Rattle.bookings.specs.Refusals.{first_that_applies}
use Rattle.bookings.specs.Rows.{bookings, Numbered}
use Rattle.bookings.specs.declared.booking.Booking.{Booking}
use Rattle.bookings.specs.declared.refusal.FileFault.{FileFault}
use Rattle.bookings.specs.declared.refusal.FileFault.TheVariants as fault
use Rattle.bookings.specs.declared.refusal.Refusal.{Refusal}
use Rattle.bookings.specs.declared.refusal.Refusal.TheVariants.{BookingStands, File}
use Rattle.bookings.specs.declared.row.Row.{Row}
use Rattle.bookings.proofs.Boards.{addition_sound}
use Rattle.bookings.proofs.Found.{some_none}
use Rattle.bookings.proofs.Numbers.{at_the_end}
use Rattle.boardfile.specs.Faults.{between, header_allowed, header_checks, row_allowed, fits_in, rows_fault, or_else, file_fault}
use Rattle.boardfile.specs.Files.{header_in, rows_in, book_in, file_length}
use Rattle.boardfile.specs.Filings.{Filing}
use Rattle.boardfile.specs.declared.header.Header.{Header}
use Rattle.boardfile.proofs.Rewritten.{length_rows_in}
use Rattle.board.specs.Calls.{Holding}
use Rattle.board.specs.Files.{load_refusal, load_check, with_book, unless, load_after}
use Rattle.board.specs.Keeping.{AllProper, Kept}
use Rattle.board.proofs.Admits.{row_is_allowed, allowed_proper, fits_beside}
use Rattle.board.proofs.Checks.{none_applies}

-- THE HEADER

-- a file with this header may be loaded by a board with so many rows
pub record AllowedHeader {L : Type 0} (k : Kind L) (f : Filing L) (room long : ℕ) (header : Header) : Type 0 where
  pub kind_is : header.kind ≡ f.code
  pub some_units : 1 ≤ header.capacity
  pub units_fit : header.capacity ≤ k.most
  pub some_minutes : 1 ≤ header.horizon
  pub minutes_fit : header.horizon ≤ 1048576
  pub some_number : 1 ≤ header.next
  pub numbers_fit : header.next ≤ 100000
  pub offset_is : header.offset ≡ 24
  pub length_is : long ≡ file_length header.count
  pub rows_fit : header.count ≤ room

lies_between : (low high n : ℕ) → between low high n ≡ true → (low ≤ n) × (n ≤ high)
lies_between low high n h = let parts = and_parts (leb low n) (leb n high) h in (leb-true _ _ parts.0, leb-true _ _ parts.1)

module _ {L : Type 0} (k : Kind L) (f : Filing L) (room : ℕ) (bytes : List ℕ) where
  abbrev header : Header
  header = header_in bytes

  pub header_is_allowed : first_that_applies (header_checks k f room bytes) ≡ None → AllowedHeader k f room (length bytes) header
  header_is_allowed e =
      let passed = none_applies (header_checks k f room bytes) e in
      let kind = and_parts (eqb header.kind f.code) _ (not-false (header_allowed k f header) passed.1.0) in
      let units = and_parts (between 1 k.most header.capacity) _ kind.1 in
      let minutes = and_parts (between 1 1048576 header.horizon) _ units.1 in
      let numbers = and_parts (between 1 100000 header.next) _ minutes.1 in
      let capacity = lies_between 1 k.most header.capacity units.0 in
      let horizon = lies_between 1 1048576 header.horizon minutes.0 in
      let next = lies_between 1 100000 header.next numbers.0 in
      record {
        kind_is = eqb-true _ _ kind.0;
        some_units = capacity.0;
        units_fit = capacity.1;
        some_minutes = horizon.0;
        minutes_fit = horizon.1;
        some_number = next.0;
        numbers_fit = next.1;
        offset_is = eqb-true _ _ numbers.1;
        length_is = eqb-true _ _ (not-false (eqb (length bytes) (file_length header.count)) passed.1.1.0);
        rows_fit = ltb-false _ _ passed.1.1.1.0;
      }

-- THE ROWS

-- no fault at a row, and none below it
pub no_fault_here : (t u : Bool) (rest : Option FileFault) (clash row : FileFault) → cond t (cond u rest (Some clash)) (Some row) ≡ None → (t ≡ true) × (u ≡ true) × (rest ≡ None)
no_fault_here true true rest clash row e = (refl, refl, e)
no_fault_here true false rest clash row e = absurd (some_none clash e)
no_fault_here false u rest clash row e = absurd (some_none row e)

-- the rows may stand beneath these bookings
pub record MayStand {L : Type 0} (k : Kind L) (header : Header) (low : ℕ) (above : List (Booking L)) (rows : List (Row L)) : Type 0 where
  pub proper : AllProper k header.horizon rows
  pub numbers : Numbered low header.next rows
  pub sound : Sound k header.capacity (above ++ bookings rows)

module _ {L : Type 0} (k : Kind L) (header : Header) (laws : Laws k header.capacity) where
  pub rows_stand : (low : ℕ) (above : List (Booking L)) (i : ℕ) (rows : List (Row L)) → low ≤ header.next → Sound k header.capacity above → rows_fault k header low above i rows ≡ None → MayStand k header low above rows
  rows_stand low above i [] l sound e = record { proper = tt; numbers = l; sound = subst (Sound k header.capacity) (sym (append-nil above)) sound }
  rows_stand low above i (r ∷ rows) l sound e =
      let x = r.booking in
      let more = above ++ (x ∷ []) in
      let here = no_fault_here (row_allowed k header low r) (fits_in k header.capacity above x) (rows_fault k header (suc r.number) more (suc i) rows) (fault.Clash i) (fault.Row i) e in
      let row = row_is_allowed k header low r here.0 in
      let one = addition_sound k header.capacity laws above more x (at_the_end above x) sound (fits_beside k header.capacity above x here.1) in
      let rest = rows_stand (suc r.number) more (suc i) rows row.below_next one.sound here.2 in
      record {
        proper = (allowed_proper k header low r row, rest.proper);
        numbers = (row.from_low, rest.numbers);
        sound = subst (Sound k header.capacity) (append_assoc above (x ∷ []) (bookings rows)) rest.sound;
      }

-- THE FILE

pub neither : (a b : Option FileFault) → or_else a b ≡ None → (a ≡ None) × (b ≡ None)
neither None b e = (refl, e)
neither (Some why) b e = absurd (some_none why e)

module _ {L : Type 0} (k : Kind L) (f : Filing L) where
  -- no fault in the file where nothing stands against loading it
  pub no_fault : (room : ℕ) (rows : List (Row L)) (bytes : List ℕ) → load_refusal k f room rows bytes ≡ None → file_fault k f room bytes ≡ None
  no_fault room [] bytes e = go (file_fault k f room bytes) e
    where
      go : (o : Option FileFault) → option_map File o ≡ None → o ≡ None
      go None e = refl
      go (Some why) e = absurd (some_none (File why) e)
  no_fault room (r ∷ rows) bytes e = absurd (some_none BookingStands e)

  pub header_of_accepted : (room : ℕ) (bytes : List ℕ) → file_fault k f room bytes ≡ None → AllowedHeader k f room (length bytes) (header_in bytes)
  header_of_accepted room bytes e = header_is_allowed k f room bytes (neither (first_that_applies (header_checks k f room bytes)) (rows_fault k (header_in bytes) 1 [] 0 (rows_in f bytes)) e).0

  module _ (lawful : Lawful k) where
    pub rows_of_accepted : (room : ℕ) (bytes : List ℕ) → file_fault k f room bytes ≡ None → MayStand k (header_in bytes) 1 [] (rows_in f bytes)
    rows_of_accepted room bytes e =
        let header = header_of_accepted room bytes e in
        rows_stand k (header_in bytes) (lawful (header_in bytes).capacity header.units_fit) 1 [] 0 (rows_in f bytes) header.some_number (λ m. tt) (neither (first_that_applies (header_checks k f room bytes)) (rows_fault k (header_in bytes) 1 [] 0 (rows_in f bytes)) e).1

    module _ (floor : L) (board : Holding L) (kept : Kept k floor board) (bytes : List ℕ) where
      accepted_kept : file_fault k f board.book.room bytes ≡ None → Kept k floor (with_book k (book_in f board.book.room bytes))
      accepted_kept e =
          let header = header_of_accepted board.book.room bytes e in
          let rows = rows_of_accepted board.book.room bytes e in
          record {
            floor_is = kept.floor_is;
            capacity_fits = header.units_fit;
            horizon_fits = header.minutes_fit;
            horizon_open = λ _. header.some_minutes;
            next_fits = header.numbers_fit;
            room_fits = kept.room_fits;
            rows_fit = omega (arith, length_rows_in f bytes, header.rows_fit);
            numbers = rows.numbers;
            proper = rows.proper;
            sound = rows.sound;
            agree = refl;
          }

      pub load_kept : Kept k floor (load_after k f board bytes)
      load_kept = go (load_check k f board bytes) refl
        where
          go : (o : Option Refusal) → load_check k f board bytes ≡ o → Kept k floor (unless o (with_book k (book_in f board.book.room bytes)) board)
          go None e = accepted_kept (no_fault board.book.room board.book.rows bytes e)
          go (Some why) e = kept
