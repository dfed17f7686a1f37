-- A file that is written row by row over the front of memory. Assumes nothing.
use Rattle.std.proofs.Common.{◌≡◌, ℕ, ◌+◌, ◌*◌, ◌<◌, ◌≤◌, List, [], ◌∷◌, ◌++◌, length, get_or, take, drop, sym, ap, ◌∙◌, ap₂, arith}
use borrow.Rule.Slice.PartMut.{put_mid}
use Rattle.std.specs.List.{flat_map}
use Rattle.std.proofs.lemmas.List.{append_assoc, append-nil, length-append, take_at, drop_at, drop-drop, take-append-drop, length-take-le, take_more, take_all, flat_map_more}
use Rattle.std.proofs.lemmas.Slice.{drop-append-drop}
use Rattle.bookings.specs.declared.row.Row.{Row}
use Rattle.boardfile.specs.Files.{file_length, header_bytes, row_bytes}
use Rattle.boardfile.specs.Filings.{Filing}
use Rattle.boardfile.specs.declared.header.Header.{Header}
use Rattle.board.specs.FileSteps.{rows_over, file_over}

-- the part behind a front, written over
over_part : (front rest new : List ℕ) (at n : ℕ) → length front ≡ at → put_mid at n (front ++ rest) new ≡ (front ++ new) ++ drop n rest
over_part front rest new at n e =
    ap₂ (λ (xs ys : List ℕ). xs ++ (new ++ drop n ys)) (take_at front rest at e) (drop_at front rest at e) ∙ sym (append_assoc front new (drop n rest))

module _ {L : Type 0} (f : Filing L) where
  joined_long : (rows : List (Row L)) → length (flat_map (row_bytes f) rows) ≡ 24 * length rows
  joined_long [] = omega arith
  joined_long (r ∷ rows) = omega (arith, length-append (row_bytes f r) (flat_map (row_bytes f) rows), joined_long rows)

  module _ (rows : List (Row L)) (memory : List ℕ) where
    -- the first i rows are written
    abbrev pub partly : ℕ → List ℕ
    partly i = (take 24 memory ++ flat_map (row_bytes f) (take i rows)) ++ drop (24 + 24 * i) memory

    pub none_written : memory ≡ partly 0
    none_written = sym (ap (λ xs. xs ++ drop 24 memory) (append-nil (take 24 memory)) ∙ take-append-drop 24 memory)

    module _ (room : 24 + 24 * length rows ≤ length memory) where
      pub one_written : (i : ℕ) (r : Row L) → i < length rows → r ≡ get_or rows i r → (new : List ℕ) → new ≡ row_bytes f r → (at n : ℕ) → at ≡ 24 + 24 * i → n ≡ 24 → (now : List ℕ) → now ≡ partly i → put_mid at n now new ≡ partly (i + 1)
      one_written i r lt read new bytes at n place size now was =
          let front = take 24 memory ++ flat_map (row_bytes f) (take i rows) in
          let rest = drop (24 + 24 * i) memory in
          let many = length-take-le i rows (omega arith) in
          let first = length-take-le 24 memory (omega arith) in
          let long : length front ≡ 24 + 24 * i = omega (arith, length-append (take 24 memory) (flat_map (row_bytes f) (take i rows)), joined_long (take i rows)) in
          let sum : (24 + 24 * i) + 24 ≡ 24 + 24 * (i + 1) = omega arith in
          ap (λ xs. put_mid at n xs new) was
          ∙ over_part front rest new at n (long ∙ sym place)
          ∙ ap₂ (λ (xs : List ℕ) (m : ℕ). (front ++ xs) ++ drop m rest) bytes size
          ∙ ap₂ (λ (xs ys : List ℕ). xs ++ ys) (flat_map_more (row_bytes f) (take 24 memory) (take i rows) r ∙ ap (λ rs. take 24 memory ++ flat_map (row_bytes f) rs) (sym (take_more rows i r lt ∙ ap (λ x. take i rows ++ (x ∷ [])) (sym read)))) (drop-drop 24 (24 + 24 * i) memory ∙ ap (λ (m : ℕ). drop m memory) sum)

      pub all_written : (i : ℕ) → i ≤ length rows → length rows ≤ i → (now : List ℕ) → now ≡ partly i → now ≡ rows_over f rows memory
      all_written i l u now was =
          let e : i ≡ length rows = omega arith in
          was ∙ ap (λ rs. (take 24 memory ++ flat_map (row_bytes f) rs) ++ drop (24 + 24 * i) memory) (take_all i rows u) ∙ ap (λ (m : ℕ). (take 24 memory ++ flat_map (row_bytes f) rows) ++ drop (24 + 24 * m) memory) e

  -- rows behind a header that is written first
  pub file_written : (header : Header) (rows : List (Row L)) (memory : List ℕ) → (new : List ℕ) → new ≡ header_bytes header → (now : List ℕ) → now ≡ rows_over f rows (new ++ drop 24 memory) → now ≡ file_over f header rows memory
  file_written header rows memory new bytes now was =
      let long : length new ≡ 24 = ap length bytes in
      let end = file_length (length rows) in
      was ∙ ap₂ (λ (xs ys : List ℕ). (xs ++ flat_map (row_bytes f) rows) ++ ys) (take_at new (drop 24 memory) 24 long ∙ bytes) (drop-append-drop 24 memory new end (omega arith) long)
