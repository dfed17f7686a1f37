-- Writing what was read: the bytes of an accepted file are those of the book that it writes. Assumes nothing.
use Rattle.std.proofs.Common.{◌≡◌, ℕ, zero, suc, ◌+◌, ◌*◌, ◌<◌, ◌≤◌, Bool, true, false, cond, eqb, List, ◌++◌, map, length, take, drop, sym, refl, ap, ◌∙◌, arith, length-drop, take-add}
use Rattle.std.proofs.ByRecursion.{All-take, All-drop}
use Rattle.std.proofs.lemmas.List.{length-map, length-take-le, take-append-drop, take_all, drop-drop, nil_from_length}
use Rattle.std.proofs.lemmas.Bool.{eqb-true, both_ways}
use Rattle.std.specs.Simd.{first_chunks}
use Rattle.std.specs.List.{flat_map, AllByRecursion}
use Rattle.bookings.specs.declared.row.Row.{Row}
use Rattle.bookings.specs.declared.row.State.TheVariants.{Blank, Confirmed, UnderWay, Held}
use Rattle.boardfile.specs.Bytes.{written, number_at, Bytes}
use Rattle.boardfile.specs.Faults.{settled}
use Rattle.bookings.specs.States.{state_number}
use Rattle.boardfile.specs.Filings.{Filing}
use Rattle.boardfile.specs.Files.{state_numbered, header_in, row_in, rows_in, book_in, file_length, header_bytes, row_bytes, header_of, file_of}
use Rattle.boardfile.proofs.Numbers.{written_value}
use Rattle.boardfile.proofs.ReadBack.{same_header}

-- PARTS OF A FILE

-- a number that was read is written as its bytes
part : (p w : ℕ) (bs : List ℕ) → Bytes bs → p + w ≤ length bs → written w (number_at p w bs) ≡ take w (drop p bs)
part p w bs h l =
    let is : length (take w (drop p bs)) ≡ w = length-take-le w (drop p bs) (simp length-drop (omega arith)) in
    ap (λ n. written n (number_at p w bs)) (sym is) ∙ written_value (take w (drop p bs)) (All-take (λ b. b < 256) w (drop p bs) (All-drop (λ b. b < 256) p bs h))

-- and so with what follows it
parts : (p w n : ℕ) (bs rest : List ℕ) → Bytes bs → p + w ≤ length bs → rest ≡ take n (drop (p + w) bs) → written w (number_at p w bs) ++ rest ≡ take (w + n) (drop p bs)
parts p w n bs rest h l is = ap (λ v. v ++ rest) (part p w bs h l) ∙ ap (λ v. take w (drop p bs) ++ v) (is ∙ ap (take n) (sym (drop-drop w p bs))) ∙ sym (take-add w n (drop p bs))

pub header_again : (bs : List ℕ) → Bytes bs → 24 ≤ length bs → header_bytes (header_in bs) ≡ take 24 bs
header_again bs h l =
    parts 0 4 20 bs _ h (omega arith) (parts 4 4 16 bs _ h (omega arith) (parts 8 4 12 bs _ h (omega arith) (parts 12 4 8 bs _ h (omega arith) (parts 16 4 4 bs _ h (omega arith) (part 20 4 bs h (omega arith))))))

-- ROWS

state_again : (n : ℕ) → settled (state_numbered n) ≡ true → state_number (state_numbered n) ≡ n
state_again n is = go (eqb n 1) (eqb n 2) (eqb n 3) refl refl is
  where
    go : (a b c : Bool) → eqb n 1 ≡ a → eqb n 2 ≡ b → settled (cond a Confirmed (cond b UnderWay (cond c Held Blank))) ≡ true → state_number (cond a Confirmed (cond b UnderWay (cond c Held Blank))) ≡ n
    go true b c p q s = sym (eqb-true n 1 p)
    go false true c p q s = sym (eqb-true n 2 q)
    go false false true p q s = absurd (both_ways false refl s)
    go false false false p q s = absurd (both_ways false refl s)

-- each is confirmed or under way
abbrev pub AllSettled : {L : Type 0} → List (Row L) → Type 0
AllSettled rows = AllByRecursion (λ r. settled r.state ≡ true) rows

-- as many rows as the header counts
module _ {L : Type 0} (f : Filing L) where
  pub length_rows_in : (bs : List ℕ) → length (rows_in f bs) ≡ (header_in bs).count
  length_rows_in bs = length-map (first_chunks 24 (header_in bs).count (drop 24 bs)) (row_in f) ∙ length_chunked (header_in bs).count (drop 24 bs)
    where
      length_chunked : (k : ℕ) (xs : List ℕ) → length (first_chunks 24 k xs) ≡ k
      length_chunked zero xs = refl
      length_chunked (suc k) xs = ap suc (length_chunked k (drop 24 xs))

module _ {L : Type 0} (f : Filing L) (claim_back : (n : ℕ) → f.word (f.claim n) ≡ n) where
  row_again : (bs : List ℕ) → Bytes bs → length bs ≡ 24 → settled (row_in f bs).state ≡ true → row_bytes f (row_in f bs) ≡ bs
  row_again bs h l is =
      let state = state_again (number_at 12 4 bs) is in
      let claim = claim_back (number_at 16 8 bs) in
      let word : written 8 (f.word (f.claim (number_at 16 8 bs))) ≡ take 8 (drop 16 bs) = ap (written 8) claim ∙ part 16 8 bs h (omega arith) in
      let stated : written 4 (state_number (state_numbered (number_at 12 4 bs))) ++ written 8 (f.word (f.claim (number_at 16 8 bs))) ≡ take 12 (drop 12 bs) = ap (λ n. written 4 n ++ written 8 (f.word (f.claim (number_at 16 8 bs)))) state ∙ parts 12 4 8 bs _ h (omega arith) word in
      parts 0 4 20 bs _ h (omega arith) (parts 4 4 16 bs _ h (omega arith) (parts 8 4 12 bs _ h (omega arith) stated)) ∙ take_all 24 bs (omega arith)

  pub rows_again : (count : ℕ) (bs : List ℕ) → Bytes bs → length bs ≡ 24 * count → AllSettled (map (row_in f) (first_chunks 24 count bs)) → flat_map (row_bytes f) (map (row_in f) (first_chunks 24 count bs)) ≡ bs
  rows_again zero bs h l all = sym (nil_from_length bs (omega arith))
  rows_again (suc count) bs h l all =
      let first = row_again (take 24 bs) (All-take (λ b. b < 256) 24 bs h) (length-take-le 24 bs (omega arith)) all.0 in
      let others = rows_again count (drop 24 bs) (All-drop (λ b. b < 256) 24 bs h) (simp length-drop (omega arith)) all.1 in
      ap (λ v. v ++ flat_map (row_bytes f) (map (row_in f) (first_chunks 24 count (drop 24 bs)))) first ∙ ap (λ v. take 24 bs ++ v) others ∙ take-append-drop 24 bs

  -- FILES

  pub file_again : (room : ℕ) (bs : List ℕ) → Bytes bs → length bs ≡ file_length (header_in bs).count → (header_in bs).kind ≡ f.code → (header_in bs).offset ≡ 24 → AllSettled (rows_in f bs) → file_of f (book_in f room bs) ≡ bs
  file_again room bs h l kind offset all =
      let header : header_of f (book_in f room bs) ≡ header_in bs = same_header _ _ _ _ _ _ (header_in bs) (sym kind) refl refl refl (length_rows_in f bs) (sym offset) in
      ap (λ x. header_bytes x ++ flat_map (row_bytes f) (rows_in f bs)) header
      ∙ ap (λ v. v ++ flat_map (row_bytes f) (rows_in f bs)) (header_again bs h (omega arith))
      ∙ ap (λ v. take 24 bs ++ v) (rows_again (header_in bs).count (drop 24 bs) (All-drop (λ b. b < 256) 24 bs h) (simp length-drop (omega arith)) all)
      ∙ take-append-drop 24 bs
