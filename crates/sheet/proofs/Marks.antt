-- How many bytes stand before a mark, in the library's words. Assumes nothing.
use Rattle.std.proofs.Common.{◌≡◌, ℕ, suc, ◌≤◌, Bool, true, false, cond, eqb, ltb, List, [], ◌∷◌, length, Some, None, Option, refl, ap, ◌∙◌, arith}
use Rattle.std.proofs.lemmas.Bool.{ltb-false}
use Rattle.std.specs.List.{position, position_or_len}
use Rattle.std.specs.Option.{unwrap_or}
use Rattle.sheet.specs.Lines.{length_before}

pub before_within : (m : ℕ) (bs : List ℕ) → length_before m bs ≤ length bs
before_within m [] = omega arith
before_within m (b ∷ bs) =
    let ih = before_within m bs in
    elim (eqb b m) as (λ v. cond v 0 (suc (length_before m bs)) ≤ length (b ∷ bs)) [ true ↦ omega arith | false ↦ omega arith ]

before_is : (m : ℕ) (bs : List ℕ) → position_or_len (λ b. eqb b m) bs ≡ length_before m bs
before_is m [] = refl
before_is m (b ∷ bs) = grind (arith, before_is m bs)

-- where the library finds the mark, or else the length
pub before_found : (m : ℕ) (bs : List ℕ) (o : Option ℕ) → o ≡ position (λ b. eqb b m) bs → unwrap_or o (length bs) ≡ length_before m bs
before_found m bs o found = ap (λ p. unwrap_or p (length bs)) found ∙ by_test (ltb n (length bs)) refl
  where
    n : ℕ
    n = position_or_len (λ b. eqb b m) bs

    by_test : (v : Bool) → ltb n (length bs) ≡ v → unwrap_or (cond v (Some n) None) (length bs) ≡ length_before m bs
    by_test true e = before_is m bs
    by_test false e = omega (arith, before_is m bs, before_within m bs, ltb-false _ _ e)
