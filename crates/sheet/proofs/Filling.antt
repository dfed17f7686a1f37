-- The numbers of a line as they are filled in one by one. Assumes nothing.
use Rattle.std.proofs.Common.{◌≡◌, ℕ, ◌+◌, ◌<◌, ◌≤◌, ◌⊎◌, List, [], ◌∷◌, ◌++◌, length, take, set, replicate, Some, None, Option, sym, refl, ap, ◌∙◌, ⊎_elim, arith, length-append, length-set, eq-eqb, ne_eqb}
use lib.ListN.{length-replicate}
use Rattle.std.proofs.lemmas.List.{append-nil, append_assoc, length-take-le, take_all, take_more_set}
use Rattle.std.specs.Option.{option_map}
use Rattle.sheet.specs.Fields.{with_first, exactly}

-- of all the numbers the first i are in their places, and the rest is to come
pub record Filled (n : ℕ) (all : Option (List ℕ)) (xs : List ℕ) (i : ℕ) (rest : Option (List ℕ)) : Type 0 where
  pub long : length xs ≡ n
  pub is : all ≡ option_map (λ ns. take i xs ++ ns) rest

pub none_filled : (n : ℕ) (all : Option (List ℕ)) → Filled n all (replicate n 0) 0 all
none_filled n None = record { long = length-replicate n 0; is = refl }
none_filled n (Some ns) = record { long = length-replicate n 0; is = refl }

module _ {n : ℕ} {all : Option (List ℕ)} {xs : List ℕ} {i : ℕ} {rest : Option (List ℕ)} (f : Filled n all xs i rest) where
  is_at : (o : Option (List ℕ)) → rest ≡ o → all ≡ option_map (λ ns. take i xs ++ ns) o
  is_at o e = f.is ∙ ap (option_map (λ ns. take i xs ++ ns)) e

  other_count : (ns : List ℕ) → (length ns ≡ n → ⊥) → all ≡ Some ns → None ≡ exactly n all
  other_count ns h e = sym (ap (exactly n) e ∙ rw (ne_eqb (length ns) n h))

  pub one_filled : (m : ℕ) (behind : Option (List ℕ)) → i < n → rest ≡ with_first (Some m) behind → Filled n all (set xs i m) (i + 1) behind
  one_filled m None h e = record { long = length-set xs i m ∙ f.long; is = is_at _ e }
  one_filled m (Some ns) h e =
      let within : i < length xs = omega (arith, f.long) in
      record {
        long = length-set xs i m ∙ f.long;
        is = is_at _ e ∙ ap Some (sym (rw (take_more_set xs i m within) (append_assoc (take i xs) (m ∷ []) ns)));
      }

  pub too_few : i < n → (rest ≡ None) ⊎ (rest ≡ Some []) → None ≡ exactly n all
  too_few h none =
      ⊎_elim
      (λ e. sym (ap (exactly n) (is_at _ e)))
      (λ e. other_count (take i xs ++ []) (λ l. omega (arith, l, f.long, length-append (take i xs) [], length-take-le i xs (omega (arith, f.long)))) (is_at _ e))
      none

  pub all_filled : n ≤ i → rest ≡ Some [] → Some xs ≡ exactly n all
  all_filled h e =
      let same : take i xs ++ [] ≡ xs = append-nil (take i xs) ∙ take_all i xs (omega (arith, f.long)) in
      sym (ap (exactly n) (is_at _ e ∙ ap Some same) ∙ rw (eq-eqb (length xs) n f.long))

  pub too_many : n ≤ i → (rest ≡ Some [] → ⊥) → None ≡ exactly n all
  too_many h no_end = by_rest rest refl
    where
      by_rest : (o : Option (List ℕ)) → rest ≡ o → None ≡ exactly n all
      by_rest None e = sym (ap (exactly n) (is_at _ e))
      by_rest (Some []) e = absurd (no_end e)
      by_rest (Some (m ∷ ms)) e =
          other_count (take i xs ++ (m ∷ ms)) (λ l. omega (arith, l, f.long, length-append (take i xs) (m ∷ ms), ap length (take_all i xs (omega (arith, f.long))))) (is_at _ e)
