-- The first field of a line, and the fields behind it. Assumes nothing.
use Rattle.std.proofs.Common.{◌≡◌, ℕ, suc, ◌<◌, Bool, true, false, cond, eqb, List, [], ◌∷◌, length, get_or, take, drop, Some, None, Option, sym, refl, ap, ◌∙◌, arith}
use Rattle.sheet.specs.Lines.{onto, length_before}
use Rattle.sheet.specs.Fields.{number_of, fields, with_first, all_numbers, numbers_of}

-- the fields of what stands behind the first field: nothing, or a space and more fields
abbrev later : List ℕ → List (List ℕ)
later [] = []
later (b ∷ bs) = fields bs

abbrev end : List ℕ → ℕ
end bs = length_before 32 bs

fields_first : (bs : List ℕ) → fields bs ≡ take (end bs) bs ∷ later (drop (end bs) bs)
fields_first [] = refl
fields_first (b ∷ bs) = by_test (eqb b 32) (fields_first bs)
  where
    by_test : (v : Bool) → fields bs ≡ take (end bs) bs ∷ later (drop (end bs) bs) → cond v ([] ∷ fields bs) (onto b (fields bs)) ≡ take (cond v 0 (suc (end bs))) (b ∷ bs) ∷ later (drop (cond v 0 (suc (end bs))) (b ∷ bs))
    by_test true e = refl
    by_test false e = ap (onto b) e

-- what stands behind the first field begins with a space
later_numbers : (bs : List ℕ) → all_numbers (later (drop (end bs) bs)) ≡ numbers_of (drop (end bs) bs)
later_numbers [] = refl
later_numbers (b ∷ bs) = by_test (eqb b 32) refl (later_numbers bs)
  where
    by_test : (v : Bool) → eqb b 32 ≡ v → all_numbers (later (drop (end bs) bs)) ≡ numbers_of (drop (end bs) bs) → all_numbers (later (drop (cond v 0 (suc (end bs))) (b ∷ bs))) ≡ numbers_of (drop (cond v 0 (suc (end bs))) (b ∷ bs))
    by_test true t e = rw t
    by_test false t e = e

pub numbers_first : (bs : List ℕ) → numbers_of (32 ∷ bs) ≡ with_first (number_of (take (end bs) bs)) (numbers_of (drop (end bs) bs))
numbers_first bs = ap all_numbers (fields_first bs) ∙ ap (with_first (number_of (take (end bs) bs))) (later_numbers bs)

-- the same of bytes that begin with a space, in the words of the code that cuts them
pub numbers_cut : (bs rest first behind : List ℕ) (e : ℕ) (o : Option ℕ) → 0 < length bs → get_or bs 0 0 ≡ 32 → rest ≡ drop 1 bs → e ≡ end rest → first ≡ take e rest → behind ≡ drop e rest → o ≡ number_of first → numbers_of bs ≡ with_first o (numbers_of behind)
numbers_cut [] rest first behind e o h b r l f d n = absurd (omega arith)
numbers_cut (x ∷ bs) rest first behind e o h b r l f d n = ap (λ y. numbers_of (y ∷ bs)) b ∙ numbers_first bs ∙ cc

with_first_some : (o : Option ℕ) (ns : Option (List ℕ)) → with_first o ns ≡ Some [] → ⊥
with_first_some None ns e = let z : ◌≡◌ {A = ℕ} 0 1 = cc in omega arith
with_first_some (Some n) None e = let z : ◌≡◌ {A = ℕ} 0 1 = cc in omega arith
with_first_some (Some n) (Some ns) e = let z : ◌≡◌ {A = ℕ} 0 1 = cc in omega arith

-- bytes that are not empty write a number or are no numbers
pub some_number : (bs : List ℕ) → (length bs ≡ 0 → ⊥) → numbers_of bs ≡ Some [] → ⊥
some_number [] h e = h refl
some_number (b ∷ bs) h e = by_test (eqb b 32) refl e
  where
    by_test : (v : Bool) → eqb b 32 ≡ v → cond v (all_numbers (fields bs)) None ≡ Some [] → ⊥
    by_test true t e = with_first_some (number_of (take (end bs) bs)) (numbers_of (drop (end bs) bs)) (sym (numbers_first bs) ∙ e)
    by_test false t e = let z : ◌≡◌ {A = ℕ} 0 1 = cc in omega arith
