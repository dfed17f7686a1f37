-- What stands at each minute once a record is put at the ends of a span, the values in it change, and repeats go. Assumes nothing.
use Rattle.std.proofs.Common.{◌≡◌, ℕ, suc, ◌<◌, ◌≤◌, Bool, true, false, cond, ◌&&◌, ltb, leb, ◌⊎◌, List, [], ◌∷◌, map, Decides, sym, refl, ap, ◌∙◌, subst, ap₂, inl, inr, arith}
use Rattle.std.proofs.lemmas.Bool.{le-leb, lt-leb, lt-ltb, le-ltb, eq-eqb, ne_eqb, cases_lt, cases_order, both_ways, and_left, and_right, and_from, cond-true, cond-false}
use Rattle.slots.specs.Stepped.{slot_of, at, Ascending, Canonical, within}
use Rattle.slots.specs.Steps.{split, remade, settled, changed_over}
use Rattle.slots.specs.declared.slot.Slot.{Slot}
use Rattle.slots.proofs.Unique.{early_head, at_after, lower}

module _ {V : Type 0} where
  raise : (low high : ℕ) (xs : List (Slot V)) → low ≤ high → Ascending high xs → Ascending low xs
  raise low high [] l h = tt
  raise low high (x ∷ xs) l h = (omega arith, h.1)

  either : (t : Bool) (v : V) → cond t v v ≡ v
  either true v = refl
  either false v = refl

  -- the three ways of a split
  pub split_after : (m : ℕ) (b : V) (x : Slot V) (xs : List (Slot V)) → x.minute < m → split m b (x ∷ xs) ≡ x ∷ split m x.value xs
  split_after m b x xs l = rw (lt-ltb x.minute m l)

  pub split_here : (m : ℕ) (b : V) (x : Slot V) (xs : List (Slot V)) → x.minute ≡ m → split m b (x ∷ xs) ≡ x ∷ xs
  split_here m b x xs e = rw (le-ltb x.minute m (omega arith), eq-eqb x.minute m e)

  pub split_before : (m : ℕ) (b : V) (x : Slot V) (xs : List (Slot V)) → m < x.minute → split m b (x ∷ xs) ≡ slot_of m b ∷ x ∷ xs
  split_before m b x xs l = rw (le-ltb x.minute m (omega arith), ne_eqb x.minute m (λ e. omega arith))

  pub split_ascending : (low m : ℕ) (b : V) (xs : List (Slot V)) → Ascending low xs → low ≤ m → Ascending low (split m b xs)
  split_ascending low m b [] h l = (l, tt)
  split_ascending low m b (x ∷ xs) h l =
      elim (cases_order x.minute m) [
        | inl e ↦ subst (Ascending low) (sym (split_here m b x xs e)) h
        | inr (inl k) ↦ subst (Ascending low) (sym (split_after m b x xs k)) (h.0, split_ascending (suc x.minute) m x.value xs h.1 (omega arith))
        | inr (inr k) ↦ subst (Ascending low) (sym (split_before m b x xs k)) (l, (omega arith, h.1))
      ]

  split_at : (low m : ℕ) (b : V) (xs : List (Slot V)) (j : ℕ) → Ascending low xs → at b (split m b xs) j ≡ at b xs j
  split_at low m b [] j h = either (leb m j) b
  split_at low m b (x ∷ xs) j h =
      elim (cases_order x.minute m) [
        | inl e ↦ ap (λ ys. at b ys j) (split_here m b x xs e)
        | inr (inl k) ↦ ap (λ ys. at b ys j) (split_after m b x xs k) ∙
            elim (cases_lt j x.minute) [
              | inl l ↦ early_head b x (split m x.value xs) j (split_ascending (suc x.minute) m x.value xs h.1 (omega arith)) l ∙ sym (early_head b x xs j h.1 l)
              | inr l ↦ at_after b x (split m x.value xs) j l ∙ split_at (suc x.minute) m x.value xs j h.1 ∙ sym (at_after b x xs j l)
            ]
        | inr (inr k) ↦ ap (λ ys. at b ys j) (split_before m b x xs k) ∙ ap (λ v. at v (x ∷ xs) j) (either (leb m j) b)
      ]

  -- a record stands at m
  abbrev Has : ℕ → List (Slot V) → Type 0
  Has m [] = ⊥
  Has m (x ∷ xs) = (x.minute ≡ m) ⊎ ((x.minute < m) × Has m xs)

  has_split : (m : ℕ) (b : V) (xs : List (Slot V)) → Has m (split m b xs)
  has_split m b [] = inl refl
  has_split m b (x ∷ xs) =
      elim (cases_order x.minute m) [
        | inl e ↦ subst (Has m) (sym (split_here m b x xs e)) (inl e)
        | inr (inl k) ↦ subst (Has m) (sym (split_after m b x xs k)) (inr (k, has_split m x.value xs))
        | inr (inr k) ↦ subst (Has m) (sym (split_before m b x xs k)) (inl refl)
      ]

  -- another split leaves it there, if it comes later
  has_still : (n m : ℕ) (b : V) (xs : List (Slot V)) → n < m → Has n xs → Has n (split m b xs)
  has_still n m b [] l h = absurd h
  has_still n m b (x ∷ xs) l (inl e) = subst (Has n) (sym (split_after m b x xs (omega arith))) (inl e)
  has_still n m b (x ∷ xs) l (inr h) = subst (Has n) (sym (split_after m b x xs (omega arith))) (inr (h.0, has_still n m x.value xs l h.1))

  module _ (f : V → V) (from until : ℕ) where
    abbrev made : List (Slot V) → List (Slot V)
    made xs = map (remade f from until) xs

    inside : (x : Slot V) → from ≤ x.minute → x.minute < until → remade f from until x ≡ slot_of x.minute (f x.value)
    inside x l k = ap (λ (t : Bool). slot_of x.minute (cond t (f x.value) x.value)) (and_from (leb from x.minute) (ltb x.minute until) (le-leb from x.minute l) (lt-ltb x.minute until k))

    pub outside : (x : Slot V) → within from until x.minute ≡ false → remade f from until x ≡ x
    outside x e = ap (λ (t : Bool). slot_of x.minute (cond t (f x.value) x.value)) e

    pub sooner : (j : ℕ) → j < from → within from until j ≡ false
    sooner j l = and_left (leb from j) (ltb j until) (lt-leb from j l)

    later : (j : ℕ) → until ≤ j → within from until j ≡ false
    later j l = and_right (leb from j) (ltb j until) (le-ltb j until l)

    made_ascending : (low : ℕ) (xs : List (Slot V)) → Ascending low xs → Ascending low (made xs)
    made_ascending low [] h = tt
    made_ascending low (x ∷ xs) h = (h.0, made_ascending (suc x.minute) xs h.1)

    made_late : (low : ℕ) (xs : List (Slot V)) → until ≤ low → Ascending low xs → made xs ≡ xs
    made_late low [] l h = refl
    made_late low (x ∷ xs) l h = ap₂ (λ y ys. y ∷ ys) (outside x (later x.minute (omega arith))) (made_late (suc x.minute) xs (omega arith) h.1)

    -- from the span's start on
    middle : (low : ℕ) (v : V) (xs : List (Slot V)) (j : ℕ) → from ≤ low → Ascending low xs → Has until xs → at (f v) (made xs) j ≡ cond (ltb j until) (f (at v xs j)) (at v xs j)
    middle low v [] j l h u = absurd u
    middle low v (x ∷ xs) j l h (inl e) =
        ap (λ ys. at (f v) ys j) (made_late x.minute (x ∷ xs) (omega arith) (omega arith, h.1)) ∙
        elim (cases_lt j until) [
          | inl k ↦ early_head (f v) x xs j h.1 (omega arith) ∙ sym (ap f (early_head v x xs j h.1 (omega arith))) ∙ sym (cond-true (ltb j until) _ _ (lt-ltb j until k))
          | inr k ↦ at_after (f v) x xs j (omega arith) ∙ sym (at_after v x xs j (omega arith)) ∙ sym (cond-false (ltb j until) _ _ (le-ltb j until k))
        ]
    middle low v (x ∷ xs) j l h (inr u) =
        ap (λ y. at (f v) (y ∷ made xs) j) (inside x (omega arith) u.0) ∙
        elim (cases_lt j x.minute) [
          | inl k ↦ early_head (f v) (slot_of x.minute (f x.value)) (made xs) j (made_ascending (suc x.minute) xs h.1) k ∙ sym (ap f (early_head v x xs j h.1 k)) ∙ sym (cond-true (ltb j until) _ _ (lt-ltb j until (omega arith)))
          | inr k ↦ at_after (f v) (slot_of x.minute (f x.value)) (made xs) j k ∙ middle (suc x.minute) x.value xs j (omega arith) h.1 u.1 ∙ sym (ap (λ w. cond (ltb j until) (f w) w) (at_after v x xs j k))
        ]

    span : (low : ℕ) (v : V) (xs : List (Slot V)) (j : ℕ) → from < until → Ascending low xs → Has from xs → Has until xs → at v (made xs) j ≡ cond (within from until j) (f (at v xs j)) (at v xs j)
    span low v [] j l h a u = absurd a
    span low v (x ∷ xs) j l h (inl e) (inl d) = absurd (omega arith)
    span low v (x ∷ xs) j l h (inl e) (inr u) =
        ap (λ y. at v (y ∷ made xs) j) (inside x (omega arith) u.0) ∙
        elim (cases_lt j x.minute) [
          | inl k ↦ early_head v (slot_of x.minute (f x.value)) (made xs) j (made_ascending (suc x.minute) xs h.1) k ∙ sym (early_head v x xs j h.1 k) ∙ sym (cond-false (within from until j) _ _ (sooner j (omega arith)))
          | inr k ↦ at_after v (slot_of x.minute (f x.value)) (made xs) j k ∙ middle (suc x.minute) x.value xs j (omega arith) h.1 u.1 ∙ sym (ap (λ w. cond (ltb j until) (f w) w) (at_after v x xs j k)) ∙ sym (ap (λ (t : Bool). cond (t && ltb j until) (f (at v (x ∷ xs) j)) (at v (x ∷ xs) j)) (le-leb from j (omega arith)))
        ]
    span low v (x ∷ xs) j l h (inr a) (inl d) = absurd (omega arith)
    span low v (x ∷ xs) j l h (inr a) (inr u) =
        ap (λ y. at v (y ∷ made xs) j) (outside x (sooner x.minute a.0)) ∙
        elim (cases_lt j x.minute) [
          | inl k ↦ early_head v x (made xs) j (made_ascending (suc x.minute) xs h.1) k ∙ sym (early_head v x xs j h.1 k) ∙ sym (cond-false (within from until j) _ _ (sooner j (omega arith)))
          | inr k ↦ at_after v x (made xs) j k ∙ span (suc x.minute) x.value xs j l h.1 a.1 u.1 ∙ sym (ap (λ w. cond (within from until j) (f w) w) (at_after v x xs j k))
        ]

  module _ (same : V → V → Bool) (told : (a b : V) → Decides (same a b) (a ≡ b)) where
    settled_ascending : (low : ℕ) (b : V) (xs : List (Slot V)) → Ascending low xs → Ascending low (settled same b xs)
    settled_ascending low b [] h = tt
    settled_ascending low b (x ∷ xs) h = go (same x.value b) (settled_ascending (suc x.minute) x.value xs h.1)
      where
        go : (t : Bool) → Ascending (suc x.minute) (settled same x.value xs) → Ascending low (cond t (settled same x.value xs) (x ∷ settled same x.value xs))
        go true r = raise low (suc x.minute) (settled same x.value xs) (omega arith) r
        go false r = (h.0, r)

    settled_canonical : (low : ℕ) (b : V) (xs : List (Slot V)) → Ascending low xs → Canonical low b (settled same b xs)
    settled_canonical low b [] h = tt
    settled_canonical low b (x ∷ xs) h = go (same x.value b) refl (settled_canonical (suc x.minute) x.value xs h.1)
      where
        go : (t : Bool) → same x.value b ≡ t → Canonical (suc x.minute) x.value (settled same x.value xs) → Canonical low b (cond t (settled same x.value xs) (x ∷ settled same x.value xs))
        go true e r = subst (λ v. Canonical low v (settled same x.value xs)) ((told x.value b).0 e) (lower low (suc x.minute) x.value (settled same x.value xs) (omega arith) r)
        go false e r = (h.0, (λ p. both_ways (same x.value b) e ((told x.value b).1 p)), r)

    settled_at : (low : ℕ) (b : V) (xs : List (Slot V)) (j : ℕ) → Ascending low xs → at b (settled same b xs) j ≡ at b xs j
    settled_at low b [] j h = refl
    settled_at low b (x ∷ xs) j h = go (same x.value b) refl (settled_at (suc x.minute) x.value xs j h.1)
      where
        go : (t : Bool) → same x.value b ≡ t → at x.value (settled same x.value xs) j ≡ at x.value xs j → at b (cond t (settled same x.value xs) (x ∷ settled same x.value xs)) j ≡ at b (x ∷ xs) j
        go true e r =
            let q = (told x.value b).0 e in
            ap (λ v. at v (settled same x.value xs) j) (sym q) ∙ r ∙ ap (λ v. at v xs j) (sym (ap (λ v. cond (leb x.minute j) x.value v) (sym q) ∙ either (leb x.minute j) x.value))
        go false e r =
            elim (cases_lt j x.minute) [
              | inl k ↦ early_head b x (settled same x.value xs) j (settled_ascending (suc x.minute) x.value xs h.1) k ∙ sym (early_head b x xs j h.1 k)
              | inr k ↦ at_after b x (settled same x.value xs) j k ∙ r ∙ sym (at_after b x xs j k)
            ]

  pub changed_right : (same : V → V → Bool) → ((a b : V) → Decides (same a b) (a ≡ b)) → (f : V → V) (from until : ℕ) → from < until → (floor : V) (xs : List (Slot V)) → Ascending 0 xs → Canonical 0 floor (changed_over same f from until floor xs) × ((m : ℕ) → at floor (changed_over same f from until floor xs) m ≡ cond (within from until m) (f (at floor xs m)) (at floor xs m))
  changed_right same told f from until l floor xs h =
      let once = split from floor xs in
      let twice = split until floor once in
      let a = split_ascending 0 from floor xs h (omega arith) in
      let b = split_ascending 0 until floor once a (omega arith) in
      let d = made_ascending f from until 0 twice b in (
        settled_canonical same told 0 floor (map (remade f from until) twice) d,
        λ m. settled_at same told 0 floor (map (remade f from until) twice) m d ∙ span f from until 0 floor twice m l b (has_still from until floor once l (has_split from floor xs)) (has_split until floor once)
            ∙ ap (λ v. cond (within from until m) (f v) v) (split_at 0 until floor once m a ∙ split_at 0 from floor xs m h),
      )
