-- The line at the reader's place is the first of the lines that are left. Assumes nothing.
use Rattle.std.proofs.Common.{◌≡◌, ℕ, suc, ◌+◌, ◌<◌, ◌≤◌, Bool, true, false, cond, eqb, ◌⊎◌, List, [], ◌∷◌, ◌++◌, length, take, drop, sym, refl, ap, ◌∙◌, inl, inr, ⊎_elim, le_refl, arith, length-append, length-drop}
use native.Mathlib.Nat.{min-eq_left, min-eq_right}
use Rattle.std.proofs.lemmas.List.{at_drop_all, drop_all, drop-drop, length-take-le}
use Rattle.std.proofs.lemmas.Bool.{cases_lt, eqb-true}
use Rattle.sheet.specs.Lines.{Part, part, onto, lines, placed, ended, line_at, place_after, length_before}
use Rattle.sheet.proofs.Marks.{before_within}

abbrev end : List ℕ → ℕ
end bs = length_before 10 bs

cut_first : (b : ℕ) (bs : List ℕ) → lines (b ∷ bs) ≡ take (end (b ∷ bs)) (b ∷ bs) ∷ lines (drop (suc (end (b ∷ bs))) (b ∷ bs))
cut_first b [] = by_test (eqb b 10)
  where
    by_test : (v : Bool) → cond v ([] ∷ []) ((b ∷ []) ∷ []) ≡ take (cond v 0 1) (b ∷ []) ∷ lines (drop (suc (cond v 0 1)) (b ∷ []))
    by_test true = refl
    by_test false = refl
cut_first b (x ∷ bs) = by_test (eqb b 10) (cut_first x bs)
  where
    by_test : (v : Bool) → lines (x ∷ bs) ≡ take (end (x ∷ bs)) (x ∷ bs) ∷ lines (drop (suc (end (x ∷ bs))) (x ∷ bs)) → cond v ([] ∷ lines (x ∷ bs)) (onto b (lines (x ∷ bs))) ≡ take (cond v 0 (suc (end (x ∷ bs)))) (b ∷ x ∷ bs) ∷ lines (drop (suc (cond v 0 (suc (end (x ∷ bs))))) (b ∷ x ∷ bs))
    by_test true ih = refl
    by_test false ih = ap (onto b) ih

first_line : (bs : List ℕ) → 0 < length bs → lines bs ≡ take (end bs) bs ∷ lines (drop (suc (end bs)) bs)
first_line [] h = absurd (omega arith)
first_line (b ∷ bs) h = cut_first b bs

-- the lines that are left at a place of the sheet
abbrev pub lines_from : List ℕ → ℕ → List (List ℕ)
lines_from sheet place = lines (drop place sheet)

abbrev pub parts_from : List ℕ → ℕ → List Part
parts_from sheet place = placed place (lines_from sheet place)

-- behind the line at the place the same lines are left, whether or not the line has its end
drop_after : (sheet : List ℕ) (place : ℕ) → drop (suc (end (drop place sheet))) (drop place sheet) ≡ drop (place_after sheet place) sheet
drop_after sheet place =
    let n = end (drop place sheet) in
    let k : drop (suc n) (drop place sheet) ≡ drop (place + suc n) sheet = drop-drop (suc n) place sheet in
    ⊎_elim
    (λ (l : place + n + 1 < length sheet). let g : place + n + 1 ≤ length sheet = omega (arith, l) in rw (min-eq_right g) (k ∙ ap (λ m. drop m sheet) (omega arith)))
    (λ (l : length sheet ≤ place + n + 1). rw (min-eq_left l) (k ∙ drop_all _ sheet (omega arith) ∙ sym (drop_all _ sheet (le_refl _))))
    (cases_lt (place + n + 1) (length sheet))

pub lines_step : (sheet : List ℕ) (place : ℕ) → place < length sheet → lines_from sheet place ≡ line_at sheet place ∷ lines_from sheet (place_after sheet place)
lines_step sheet place more =
    first_line (drop place sheet) (simp length-drop (omega arith)) ∙ ap (λ bs. line_at sheet place ∷ lines bs) (drop_after sheet place)

-- the next line stands at the next place, where there is one
placed_after : (sheet : List ℕ) (place : ℕ) → placed (place + end (drop place sheet) + 1) (lines_from sheet (place_after sheet place)) ≡ parts_from sheet (place_after sheet place)
placed_after sheet place =
    let n = end (drop place sheet) in
    ⊎_elim
    (λ (l : place + n + 1 < length sheet). let g : place + n + 1 ≤ length sheet = omega (arith, l) in rw (min-eq_right g))
    (λ (l : length sheet ≤ place + n + 1). rw (min-eq_left l) (at_drop_all (λ bs. placed (place + n + 1) (lines bs)) sheet _ (le_refl _) ∙ sym (at_drop_all (λ bs. placed (length sheet) (lines bs)) sheet _ (le_refl _))))
    (cases_lt (place + n + 1) (length sheet))

pub length_line_at : (sheet : List ℕ) (place : ℕ) → length (line_at sheet place) ≡ end (drop place sheet)
length_line_at sheet place = length-take-le (end (drop place sheet)) (drop place sheet) (before_within 10 (drop place sheet))

pub parts_step : (sheet : List ℕ) (place : ℕ) → place < length sheet → parts_from sheet place ≡ part place (line_at sheet place) ∷ parts_from sheet (place_after sheet place)
parts_step sheet place more =
    ap (placed place) (lines_step sheet place more)
    ∙ ap (λ n. part place (line_at sheet place) ∷ placed (place + n + 1) (lines_from sheet (place_after sheet place))) (length_line_at sheet place)
    ∙ ap (λ ps. part place (line_at sheet place) ∷ ps) (placed_after sheet place)

-- the bytes of the lines, each with its end, are those of the sheet, to which at most a last end is added
abbrev Ends : List (List ℕ) → List ℕ → Type 0
Ends ls bs = (ended ls ≡ bs) ⊎ (ended ls ≡ bs ++ (10 ∷ []))

one_more : (b : ℕ) (xs bs : List ℕ) → (xs ≡ bs) ⊎ (xs ≡ bs ++ (10 ∷ [])) → (◌≡◌ {A = List ℕ} (b ∷ xs) (b ∷ bs)) ⊎ (◌≡◌ {A = List ℕ} (b ∷ xs) (b ∷ (bs ++ (10 ∷ []))))
one_more b xs bs e = ⊎_elim (λ h. inl (ap (λ ys. b ∷ ys) h)) (λ h. inr (ap (λ ys. b ∷ ys) h)) e

ended_onto : (b : ℕ) (bs : List ℕ) (ls : List (List ℕ)) → Ends ls bs → Ends (onto b ls) (b ∷ bs)
ended_onto b bs [] e =
    ⊎_elim
    (λ h. inr (ap (λ ys. b ∷ (ys ++ (10 ∷ []))) h))
    (λ (h : [] ≡ bs ++ (10 ∷ [])). absurd (omega (arith, ap length h, length-append bs (10 ∷ []))))
    e
ended_onto b bs (l ∷ ls) e = one_more b (ended (l ∷ ls)) bs e

pub ended_lines : (bs : List ℕ) → Ends (lines bs) bs
ended_lines [] = inl refl
ended_lines (b ∷ bs) = by_test (eqb b 10) refl (ended_lines bs)
  where
    by_test : (v : Bool) → eqb b 10 ≡ v → Ends (lines bs) bs → Ends (cond v ([] ∷ lines bs) (onto b (lines bs))) (b ∷ bs)
    by_test true t e = rw (eqb-true b 10 t) (one_more 10 (ended (lines bs)) bs e)
    by_test false t e = ended_onto b bs (lines bs) e
