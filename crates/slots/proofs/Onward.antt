-- One step on through the records. Assumes nothing.
use Rattle.std.proofs.Common.{◌≡◌, ℕ, zero, suc, ◌+◌, ◌-◌, ◌<◌, ◌≤◌, List, [], ◌∷◌, length, get_or, take, drop, sym, refl, ap, ◌∙◌, arith}
use Rattle.std.proofs.lemmas.List.{at_drop_more}
use Rattle.std.proofs.lemmas.Bool.{cond-true, cond-false, lt-ltb, le-ltb}
use Rattle.slots.specs.Steps.{place, last_of}
use Rattle.slots.specs.declared.slot.Slot.{Slot}

module _ {X Y : Type 0} (F : List X → Y) (xs : List X) (i : ℕ) (x : X) (inside : i < length xs) (read : x ≡ get_or xs i x) where
  -- what is left begins with what was read
  pub step : F (drop i xs) ≡ F (x ∷ drop (i + 1) xs)
  step = at_drop_more F xs i x inside ∙ ap (λ (y : X). F (y ∷ drop (i + 1) xs)) (sym read)

module _ {V : Type 0} (xs : List (Slot V)) (i : ℕ) (s : Slot V) (inside : i < length xs) (read : s ≡ get_or xs i s) (m : ℕ) where
  pub place_next : s.minute < m → place m (drop i xs) ≡ suc (place m (drop (i + 1) xs))
  place_next l = step (place m) xs i s inside read ∙ cond-true _ _ _ (lt-ltb s.minute m l)

  pub place_stop : m ≤ s.minute → place m (drop i xs) ≡ 0
  place_stop l = step (place m) xs i s inside read ∙ cond-false _ _ _ (le-ltb s.minute m l)

last_at : {V : Type 0} (b : V) (xs : List (Slot V)) (k : ℕ) (s : Slot V) → k < length xs → (get_or xs k s).value ≡ last_of b (take (suc k) xs)
last_at b [] k s l = absurd (omega arith)
last_at b (x ∷ xs) zero s l = refl
last_at b (x ∷ xs) (suc k) s l = last_at x.value xs k s (omega arith)

pub last_read : {V : Type 0} (b : V) (xs : List (Slot V)) (i : ℕ) (s : Slot V) → 0 < i → i ≤ length xs → (get_or xs (i - 1) s).value ≡ last_of b (take i xs)
last_read b xs i s p l = let e : suc (i - 1) ≡ i = omega arith in last_at b xs (i - 1) s (omega arith) ∙ ap (λ (n : ℕ). last_of b (take n xs)) e
