-- Reading what was written: a header, a row, and the rows of a file come back. Assumes nothing.
use Rattle.std.proofs.Common.{◌≡◌, ℕ, ◌*◌, ◌^◌, ◌<◌, List, [], ◌∷◌, ◌++◌, map, length, refl, ap, ◌∙◌, arith}
use Rattle.std.specs.Simd.{first_chunks}
use Rattle.std.specs.List.{flat_map, AllByRecursion}
use Rattle.bookings.specs.Rows.{row_of, Book}
use Rattle.bookings.specs.declared.row.Row.{Row}
use Rattle.bookings.specs.declared.row.State.{State}
use Rattle.bookings.specs.declared.row.State.TheVariants.{Blank, Confirmed, UnderWay, Held}
use Rattle.bookings.specs.States.{state_number}
use Rattle.boardfile.specs.Filings.{Filing}
use Rattle.boardfile.specs.Files.{state_numbered, header_in, row_in, rows_in, file_length, header_bytes, row_bytes, header_of, file_of}
use Rattle.boardfile.specs.declared.header.Header.{Header}
use Rattle.boardfile.proofs.Numbers.{value_four, value_eight}

-- HEADERS

-- each of its numbers has 32 bits
pub record HeaderFits (header : Header) : Type 0 where
  pub kind_fits : header.kind < 2 ^ 32
  pub capacity_fits : header.capacity < 2 ^ 32
  pub horizon_fits : header.horizon < 2 ^ 32
  pub next_fits : header.next < 2 ^ 32
  pub count_fits : header.count < 2 ^ 32
  pub offset_fits : header.offset < 2 ^ 32

pub same_header : (a b c d e g : ℕ) (header : Header) → a ≡ header.kind → b ≡ header.capacity → c ≡ header.horizon → d ≡ header.next → e ≡ header.count → g ≡ header.offset → record { kind = a; capacity = b; horizon = c; next = d; count = e; offset = g } ≡ header
same_header a b c d e g header p q r s t u = rw (p, q, r, s, t, u)

pub header_back : (header : Header) (rest : List ℕ) → HeaderFits header → header_in (header_bytes header ++ rest) ≡ header
header_back header rest fits =
    same_header _ _ _ _ _ _ header
    (value_four header.kind fits.kind_fits)
    (value_four header.capacity fits.capacity_fits)
    (value_four header.horizon fits.horizon_fits)
    (value_four header.next fits.next_fits)
    (value_four header.count fits.count_fits)
    (value_four header.offset fits.offset_fits)

-- ROWS

pub state_back : (s : State) → state_numbered (state_number s) ≡ s
state_back Blank = refl
state_back Confirmed = refl
state_back UnderWay = refl
state_back Held = refl

state_small : (s : State) → state_number s < 2 ^ 32
state_small Blank = omega arith
state_small Confirmed = omega arith
state_small UnderWay = omega arith
state_small Held = omega arith

-- its numbers have 32 bits, and its claim goes into 64 and comes back
pub record RowFits {L : Type 0} (f : Filing L) (r : Row L) : Type 0 where
  pub number_fits : r.number < 2 ^ 32
  pub start_fits : r.booking.start < 2 ^ 32
  pub end_fits : r.booking.end < 2 ^ 32
  pub word_fits : f.word r.booking.claim < 2 ^ 64
  pub word_back : f.claim (f.word r.booking.claim) ≡ r.booking.claim

module _ {L : Type 0} (f : Filing L) where
  pub same_row : (n from until : ℕ) (p : L) (s : State) (r : Row L) → n ≡ r.number → from ≡ r.booking.start → until ≡ r.booking.end → p ≡ r.booking.claim → s ≡ r.state → row_of n (record { start = from; end = until; claim = p }) s ≡ r
  same_row n from until p s r a b c d e = rw (a, b, c, d, e)

  -- whatever stands behind it
  pub row_back : (r : Row L) (rest : List ℕ) → RowFits f r → row_in f (row_bytes f r ++ rest) ≡ r
  row_back r rest fits =
      same_row _ _ _ _ _ r
      (value_four r.number fits.number_fits)
      (value_four r.booking.start fits.start_fits)
      (value_four r.booking.end fits.end_fits)
      (ap f.claim (value_eight (f.word r.booking.claim) fits.word_fits) ∙ fits.word_back)
      (ap state_numbered (value_four (state_number r.state) (state_small r.state)) ∙ state_back r.state)

  pub rows_back : (rows : List (Row L)) → AllByRecursion (RowFits f) rows → map (row_in f) (first_chunks 24 (length rows) (flat_map (row_bytes f) rows)) ≡ rows
  rows_back [] fits = refl
  rows_back (r ∷ rows) fits = ap (λ x. x ∷ map (row_in f) (first_chunks 24 (length rows) (flat_map (row_bytes f) rows))) (row_back r [] fits.0) ∙ ap (λ xs. r ∷ xs) (rows_back rows fits.1)

  -- FILES

  length_rows : (rows : List (Row L)) → length (flat_map (row_bytes f) rows) ≡ 24 * length rows
  length_rows [] = refl
  length_rows (r ∷ rows) = omega (arith, length_rows rows)

  pub length_file : (book : Book L) → length (file_of f book) ≡ file_length (length book.rows)
  length_file book = omega (arith, length_rows book.rows)

  pub file_header : (book : Book L) → HeaderFits (header_of f book) → header_in (file_of f book) ≡ header_of f book
  file_header book fits = header_back (header_of f book) (flat_map (row_bytes f) book.rows) fits

  pub file_rows : (book : Book L) → HeaderFits (header_of f book) → AllByRecursion (RowFits f) book.rows → rows_in f (file_of f book) ≡ book.rows
  file_rows book fits all = ap (λ header. map (row_in f) (first_chunks 24 header.count (flat_map (row_bytes f) book.rows))) (file_header book fits) ∙ rows_back book.rows all
