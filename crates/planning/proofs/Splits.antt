-- An ascending list split at a minute: the records up to it, the load that stands there, and the records after. Assumes nothing.
use Rattle.std.proofs.Common.{◌≡◌, ℕ, zero, suc, ◌+◌, ◌<◌, ◌≤◌, cond, leb, List, [], ◌∷◌, length, get_or, take, drop, sym, refl, ap, ◌∙◌, subst, inl, inr, arith}
use Rattle.std.proofs.lemmas.Bool.{le-leb, lt-leb, cases_lt, cond-true, cond-false}
use Rattle.std.proofs.lemmas.List.{drop_all}
use Rattle.slots.specs.Stepped.{at, Ascending}
use Rattle.slots.specs.declared.slot.Slot.{Slot}
use Rattle.planning.specs.Walks.{upto, last_value}
use Rattle.planning.proofs.Ascents.{at_before, at_after}

module _ {L : Type 0} (s : ℕ) where
  counted : (x : Slot L) (xs : List (Slot L)) → x.minute ≤ s → upto s (x ∷ xs) ≡ suc (upto s xs)
  counted x xs l = cond-true _ _ _ (le-leb x.minute s l)

  not_counted : (x : Slot L) (xs : List (Slot L)) → s < x.minute → upto s (x ∷ xs) ≡ 0
  not_counted x xs l = cond-false _ _ _ (lt-leb x.minute s l)

  pub none_upto : (low : ℕ) (xs : List (Slot L)) → Ascending low xs → s < low → upto s xs ≡ 0
  none_upto low [] h l = refl
  none_upto low (x ∷ xs) h l = not_counted x xs (omega arith)

  -- what is left from a record past the minute on
  pub rest_rises : (low n : ℕ) (xs : List (Slot L)) → Ascending low xs → ((d : Slot L) → n < length xs → s < (get_or xs n d).minute) → Ascending (suc s) (drop n xs)
  rest_rises low zero [] h later = tt
  rest_rises low (suc n) [] h later = tt
  rest_rises low zero (x ∷ xs) h later = (later x (omega arith), h.1)
  rest_rises low (suc n) (x ∷ xs) h later = rest_rises (suc x.minute) n xs h.1 (λ d l. later d (omega arith))

  no_lower : (low i : ℕ) (xs : List (Slot L)) → Ascending low xs → i < length xs → (d : Slot L) → low ≤ (get_or xs i d).minute
  no_lower low i [] h l d = absurd (omega arith)
  no_lower low zero (x ∷ xs) h l d = h.0
  no_lower low (suc i) (x ∷ xs) h l d = omega (arith, no_lower (suc x.minute) i xs h.1 (omega arith) d)

  -- a record up to the minute, and none behind it
  pub upto_is : (low i : ℕ) (xs : List (Slot L)) → Ascending low xs → i < length xs → ((d : Slot L) → (get_or xs i d).minute ≤ s) → Ascending (suc s) (drop (suc i) xs) → upto s xs ≡ suc i
  upto_is low i [] h l u rest = absurd (omega arith)
  upto_is low zero (y ∷ xs) h l u rest = counted y xs (u y) ∙ ap suc (none_upto (suc s) xs rest (omega arith))
  upto_is low (suc i) (y ∷ xs) h l u rest =
      counted y xs (omega (arith, no_lower (suc y.minute) i xs h.1 (omega arith) y, u y)) ∙ ap suc (upto_is (suc y.minute) i xs h.1 (omega arith) u rest)

  -- so many records from the front on, up to the minute, and all others past it
  pub upto_all : (n : ℕ) (xs : List (Slot L)) → Ascending 0 xs → n ≤ length xs → ((i : ℕ) (d : Slot L) → n ≡ i + 1 → (get_or xs i d).minute ≤ s) → ((j : ℕ) (d : Slot L) → n ≤ j → j < length xs → s < (get_or xs j d).minute) → upto s xs ≡ n
  upto_all zero xs h l upto later = none_upto (suc s) xs (rest_rises 0 0 xs h (λ d u. later 0 d (omega arith) u)) (omega arith)
  upto_all (suc i) xs h l upto later = upto_is 0 i xs h l (λ d. upto i d (omega arith)) (rest_rises 0 (suc i) xs h (λ d u. later (suc i) d (omega arith) u))

  -- none of the records behind the first n stands up to the minute
  pub taken : (low n : ℕ) (xs : List (Slot L)) → Ascending low xs → Ascending low (take n xs)
  taken low zero xs h = tt
  taken low (suc n) [] h = tt
  taken low (suc n) (x ∷ xs) h = (h.0, taken (suc x.minute) n xs h.1)

  pub upto_taken : (n : ℕ) (xs : List (Slot L)) → Ascending (suc s) (drop n xs) → upto s (take n xs) ≡ upto s xs
  upto_taken zero xs h = sym (none_upto (suc s) xs h (omega arith))
  upto_taken (suc n) [] h = refl
  upto_taken (suc n) (x ∷ xs) h = ap (λ m. cond (leb x.minute s) (suc m) 0) (upto_taken n xs h)

  -- from the last record on
  pub none_left : (xs : List (Slot L)) → Ascending (suc s) (drop (length xs) xs)
  none_left xs = subst (Ascending (suc s)) (sym (drop_all (length xs) xs (omega arith))) tt

  pub after_rises : (low : ℕ) (xs : List (Slot L)) → Ascending low xs → Ascending (suc s) (drop (upto s xs) xs)
  after_rises low [] h = tt
  after_rises low (x ∷ xs) h =
      elim (cases_lt s x.minute) [
        | inr l ↦ subst (λ n. Ascending (suc s) (drop n (x ∷ xs))) (sym (counted x xs l)) (after_rises (suc x.minute) xs h.1)
        | inl l ↦ subst (λ n. Ascending (suc s) (drop n (x ∷ xs))) (sym (not_counted x xs l)) (l, h.1)
      ]

  pub here_is : (low : ℕ) (b : L) (xs : List (Slot L)) → Ascending low xs → last_value b (take (upto s xs) xs) ≡ at b xs s
  here_is low b [] h = refl
  here_is low b (x ∷ xs) h =
      elim (cases_lt s x.minute) [
        | inr l ↦ ap (λ n. last_value b (take n (x ∷ xs))) (counted x xs l) ∙ here_is (suc x.minute) x.value xs h.1 ∙ sym (at_after b x xs s l)
        | inl l ↦ ap (λ n. last_value b (take n (x ∷ xs))) (not_counted x xs l) ∙ sym (at_before low b x xs s h l)
      ]

  pub at_late : (low : ℕ) (b : L) (xs : List (Slot L)) → Ascending low xs → (n : ℕ) → s ≤ n → at b xs n ≡ at (at b xs s) (drop (upto s xs) xs) n
  at_late low b [] h n l = refl
  at_late low b (x ∷ xs) h n l =
      elim (cases_lt s x.minute) [
        | inr u ↦
            at_after b x xs n (omega arith)
            ∙ at_late (suc x.minute) x.value xs h.1 n l
            ∙ ap (λ v. at v (drop (upto s xs) xs) n) (sym (at_after b x xs s u))
            ∙ ap (λ i. at (at b (x ∷ xs) s) (drop i (x ∷ xs)) n) (sym (counted x xs u))
        | inl u ↦
            ap (λ v. at v (x ∷ xs) n) (sym (at_before low b x xs s h u))
            ∙ ap (λ i. at (at b (x ∷ xs) s) (drop i (x ∷ xs)) n) (sym (not_counted x xs u))
      ]

  pub at_soon : (low : ℕ) (b : L) (xs : List (Slot L)) → Ascending low xs → (n : ℕ) → n ≤ s → at b xs n ≡ at b (take (upto s xs) xs) n
  at_soon low b [] h n l = refl
  at_soon low b (x ∷ xs) h n l =
      elim (cases_lt s x.minute) [
        | inr u ↦ at_soon (suc x.minute) (cond (leb x.minute n) x.value b) xs h.1 n l ∙ ap (λ i. at b (take i (x ∷ xs)) n) (sym (counted x xs u))
        | inl u ↦ at_before low b x xs n h (omega arith) ∙ ap (λ i. at b (take i (x ∷ xs)) n) (sym (not_counted x xs u))
      ]

pub last_is : {L : Type 0} (b : L) (i : ℕ) (x : Slot L) (xs : List (Slot L)) → suc i ≡ length xs → x ≡ get_or xs i x → x.value ≡ last_value b xs
last_is b i x [] n e = absurd (omega arith)
last_is b zero x (y ∷ []) n e = ap (λ (v : Slot _). v.value) e
last_is b zero x (y ∷ z ∷ xs) n e = absurd (omega arith)
last_is b (suc i) x (y ∷ xs) n e = last_is y.value i x xs (omega arith) e
