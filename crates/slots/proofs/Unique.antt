-- Stepped lists: what stands before the first record, and that a canonical list is the only one of its values. Assumes nothing.
use Rattle.std.proofs.Common.{◌≡◌, ℕ, suc, ◌<◌, ◌≤◌, List, [], ◌∷◌, sym, refl, ap, ◌∙◌, ap₂, subst₂, inl, inr, arith}
use Rattle.std.proofs.lemmas.Bool.{le-leb, lt-leb, cases_lt, cases_order}
use Rattle.slots.specs.Theorems.{SlotsUnique}
use Rattle.slots.specs.Stepped.{slot_of, at, Ascending, Canonical}
use Rattle.slots.specs.declared.slot.Slot.{Slot}

module _ {L : Type 0} where
  -- a list canonical from a minute on is so from an earlier one on
  pub lower : (low high : ℕ) (b : L) (xs : List (Slot L)) → low ≤ high → Canonical high b xs → Canonical low b xs
  lower low high b [] l h = tt
  lower low high b (x ∷ xs) l h = (omega arith, h.1, h.2)

  pub canonical_ascending : (low : ℕ) (b : L) (xs : List (Slot L)) → Canonical low b xs → Ascending low xs
  canonical_ascending low b [] h = tt
  canonical_ascending low b (x ∷ xs) h = (h.0, canonical_ascending (suc x.minute) x.value xs h.2)

  -- before the first record
  pub early : (low : ℕ) (b : L) (xs : List (Slot L)) (m : ℕ) → Ascending low xs → m < low → at b xs m ≡ b
  early low b [] m h l = refl
  early low b (x ∷ xs) m h l = rw (lt-leb x.minute m (omega arith)) (early (suc x.minute) b xs m h.1 (omega arith))

  pub early_head : (b : L) (x : Slot L) (xs : List (Slot L)) (m : ℕ) → Ascending (suc x.minute) xs → m < x.minute → at b (x ∷ xs) m ≡ b
  early_head b x xs m h l = rw (lt-leb x.minute m l) (early (suc x.minute) b xs m h (omega arith))

  -- the same of a canonical list, and at the first record's own minute
  pub at_early : (low : ℕ) (v b : L) (xs : List (Slot L)) (m : ℕ) → Canonical low v xs → m < low → at b xs m ≡ b
  at_early low v b xs m h l = early low b xs m (canonical_ascending low v xs h) l

  pub at_first : (low : ℕ) (b : L) (x : Slot L) (xs : List (Slot L)) → Canonical low b (x ∷ xs) → at b (x ∷ xs) x.minute ≡ x.value
  at_first low b x xs h = rw (le-leb x.minute x.minute (omega arith)) (at_early (suc x.minute) x.value x.value xs x.minute h.2 (omega arith))

  pub at_before : (low : ℕ) (b : L) (x : Slot L) (xs : List (Slot L)) (m : ℕ) → Canonical low b (x ∷ xs) → m < x.minute → at b (x ∷ xs) m ≡ b
  at_before low b x xs m h l = early_head b x xs m (canonical_ascending (suc x.minute) x.value xs h.2) l

  -- from the first record on
  pub at_after : (b : L) (x : Slot L) (xs : List (Slot L)) (m : ℕ) → x.minute ≤ m → at b (x ∷ xs) m ≡ at x.value xs m
  at_after b x xs m l = rw (le-leb x.minute m l)

  step_path : (x y : Slot L) → x.minute ≡ y.minute → x.value ≡ y.value → x ≡ y
  step_path x y p q = ap₂ slot_of p q

  pub unique : SlotsUnique L
  unique b low [] [] h k e = refl
  unique b low [] (y ∷ ys) h k e = absurd (k.1 (sym (e y.minute ∙ at_first low b y ys k)))
  unique b low (x ∷ xs) [] h k e = absurd (h.1 (sym (at_first low b x xs h) ∙ e x.minute))
  unique b low (x ∷ xs) (y ∷ ys) h k e =
      elim (cases_order x.minute y.minute) [
        | inl p ↦
            let q : x.value ≡ y.value = sym (at_first low b x xs h) ∙ e x.minute ∙ ap (at b (y ∷ ys)) p ∙ at_first low b y ys k in
            ap₂ (λ u us. u ∷ us) (step_path x y p q) (unique x.value (suc x.minute) xs ys h.2 (moved p q) (after p q))
        | inr (inl l) ↦ absurd (h.1 (sym (at_first low b x xs h) ∙ e x.minute ∙ at_before low b y ys x.minute k l))
        | inr (inr l) ↦ absurd (k.1 (sym (at_first low b y ys k) ∙ sym (e y.minute) ∙ at_before low b x xs y.minute h l))
      ]
    where
      moved : x.minute ≡ y.minute → x.value ≡ y.value → Canonical (suc x.minute) x.value ys
      moved p q = subst₂ (λ n v. Canonical (suc n) v ys) (sym p) (sym q) k.2

      after : x.minute ≡ y.minute → x.value ≡ y.value → (m : ℕ) → at x.value xs m ≡ at x.value ys m
      after p q m =
          elim (cases_lt m (suc x.minute)) [
            | inl l ↦ at_early (suc x.minute) x.value x.value xs m h.2 l ∙ sym (at_early (suc x.minute) x.value x.value ys m (moved p q) l)
            | inr l ↦ sym (at_after b x xs m (omega arith)) ∙ e m ∙ at_after b y ys m (omega arith) ∙ ap (λ v. at v ys m) (sym q)
          ]
