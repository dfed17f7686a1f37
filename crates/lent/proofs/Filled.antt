-- A list that is filled from the front. Assumes nothing.
use Rattle.std.proofs.Common.{◌≡◌, ℕ, zero, suc, ◌+◌, ◌<◌, List, [], ◌∷◌, ◌++◌, length, drop, replicate, set, refl, sym, ap, subst, arith}
use native.Mathlib.Numerals.{add-one}

module _ {X : Type 0} where
  next : (i : ℕ) (x : X) (xs : List X) → i < length xs → set (replicate i x ++ drop i xs) i x ≡ replicate (suc i) x ++ drop (suc i) xs
  next i x [] l = absurd (omega arith)
  next zero x (y ∷ xs) l = refl
  next (suc i) x (y ∷ xs) l = ap (λ (t : List X). x ∷ t) (next i x xs (omega arith))

  pub one_more : (i : ℕ) (x : X) (xs : List X) → i < length xs → set (replicate i x ++ drop i xs) i x ≡ replicate (i + 1) x ++ drop (i + 1) xs
  one_more i x xs l = subst (λ (k : ℕ). set (replicate i x ++ drop i xs) i x ≡ replicate k x ++ drop k xs) (sym (add-one i)) (next i x xs l)
