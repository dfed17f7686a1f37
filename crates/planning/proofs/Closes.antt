-- The closing of a start, from the records after it. Assumes nothing.
use Rattle.std.proofs.Common.{◌≡◌, ℕ, zero, suc, ◌+◌, ◌-◌, ◌<◌, ◌≤◌, min, Bool, true, false, cond, List, [], ◌∷◌, sym, refl, ap, ◌∙◌, ap₂, inl, inr, arith}
use Rattle.std.proofs.lemmas.Bool.{cases_lt, cases_Bool, cond-true, cond-false}
use Rattle.units.specs.Kinds.{Kind}
use Rattle.planning.specs.Rectangles.{closing_of}
use Rattle.slots.specs.Stepped.{at, Ascending}
use Rattle.slots.specs.declared.slot.Slot.{Slot}
use Rattle.planning.proofs.Ascents.{early, at_before, at_after}
use Rattle.planning.proofs.Opens.{quiet}

-- the minute of the first record whose load adds something, at most h
abbrev pub first_loud : {L : Type 0} → Kind L → L → ℕ → List (Slot L) → ℕ
first_loud k over h [] = h
first_loud k over h (x ∷ xs) = cond (quiet k over x.value) (first_loud k over h xs) (min h x.minute)

module _ {L : Type 0} (k : Kind L) (over : L) where
  none_past : (low h : ℕ) (xs : List (Slot L)) → Ascending low xs → h ≤ low → first_loud k over h xs ≡ h
  none_past low h [] a u = refl
  none_past low h (x ∷ xs) a u =
      elim (cases_Bool (quiet k over x.value)) [
        | inl q ↦ cond-true _ _ _ q ∙ none_past (suc x.minute) h xs a.1 (omega arith)
        | inr q ↦ cond-false _ _ _ q ∙ omega arith
      ]

  step_quiet : (f : ℕ → L) (m n : ℕ) → quiet k over (f m) ≡ true → closing_of k f over m (suc n) ≡ closing_of k f over (suc m) n
  step_quiet f m n e = ap (λ (q : Bool). elim q [ true ↦ closing_of k f over (suc m) n | false ↦ m ]) e

  step_loud : (f : ℕ → L) (m n : ℕ) → quiet k over (f m) ≡ false → closing_of k f over m (suc n) ≡ m
  step_loud f m n e = ap (λ (q : Bool). elim q [ true ↦ closing_of k f over (suc m) n | false ↦ m ]) e

  pub same_close : (f g : ℕ → L) (s n : ℕ) → ((m : ℕ) → s ≤ m → f m ≡ g m) → closing_of k f over s n ≡ closing_of k g over s n
  same_close f g s zero h = refl
  same_close f g s (suc n) h =
      let here = ap (quiet k over) (h s (omega arith)) in
      elim (cases_Bool (quiet k over (g s))) [
        | inl q ↦ step_quiet f s n (here ∙ q) ∙ same_close f g (suc s) n (λ m l. h m (omega arith)) ∙ sym (step_quiet g s n q)
        | inr q ↦ step_loud f s n (here ∙ q) ∙ sym (step_loud g s n q)
      ]

  -- no load from s up to t adds something
  pub close_still : (f : ℕ → L) (s a r n t : ℕ) → a + r ≡ n → s + a ≡ t → ((m : ℕ) → s ≤ m → m < t → quiet k over (f m) ≡ true) → closing_of k f over s n ≡ closing_of k f over t r
  close_still f s zero r n t e g h =
      let p : n ≡ r = omega arith in
      let i : s ≡ t = omega arith in
      ap₂ (closing_of k f over) i p
  close_still f s (suc a) r zero t e g h = absurd (omega arith)
  close_still f s (suc a) r (suc n) t e g h = step_quiet f s n (h s (omega arith) (omega arith)) ∙ close_still f (suc s) a r n t (omega arith) (omega arith) (λ m l u. h m (omega arith) u)

  -- where the load of s adds something
  pub at_once : (s h : ℕ) (b : L) (xs : List (Slot L)) → Ascending (suc s) xs → quiet k over b ≡ false → closing_of k (at b xs) over s (h - s) ≡ s
  at_once s h b xs a q = shut (h - s)
    where
      shut : (n : ℕ) → closing_of k (at b xs) over s n ≡ s
      shut zero = refl
      shut (suc n) = step_loud (at b xs) s n (ap (quiet k over) (early (suc s) b xs s a (omega arith)) ∙ q)

  -- where it adds nothing
  pub closes_is : (s h : ℕ) (b : L) (xs : List (Slot L)) → Ascending (suc s) xs → s ≤ h → quiet k over b ≡ true → closing_of k (at b xs) over s (h - s) ≡ first_loud k over h xs
  closes_is s h b [] a l q = close_still (at b []) s (h - s) 0 (h - s) h (omega arith) (omega arith) (λ m i j. q)
  closes_is s h b (x ∷ xs) a l q =
      elim (cases_lt x.minute h) [
        | inr u ↦
            close_still (at b (x ∷ xs)) s (h - s) 0 (h - s) h (omega arith) (omega arith) (λ m i j. ap (quiet k over) (at_before (suc s) b x xs m a (omega arith)) ∙ q)
            ∙ sym (none_past h h (x ∷ xs) (u, a.1) (omega arith))
        | inl u ↦
            close_still (at b (x ∷ xs)) s (x.minute - s) (h - x.minute) (h - s) x.minute (omega arith) (omega arith) (λ m i j. ap (quiet k over) (at_before (suc s) b x xs m a j) ∙ q)
            ∙ same_close (at b (x ∷ xs)) (at x.value xs) x.minute (h - x.minute) (λ m i. at_after b x xs m i)
            ∙ elim (cases_Bool (quiet k over x.value)) [
              | inl y ↦ closes_is x.minute h x.value xs a.1 (omega arith) y ∙ sym (cond-true _ _ _ y)
              | inr y ↦ let own : x.minute ≡ min h x.minute = omega arith in at_once x.minute h x.value xs a.1 y ∙ own ∙ sym (cond-false _ _ _ y)
            ]
      ]
