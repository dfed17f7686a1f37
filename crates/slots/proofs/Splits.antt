-- A record put at a minute: where it goes, and that its place may be sought from an earlier one on. Assumes nothing.
use Rattle.std.proofs.Common.{◌≡◌, ℕ, zero, suc, ◌+◌, ◌<◌, ◌≤◌, List, [], ◌∷◌, length, get_or, take, drop, sym, refl, ap, ◌∙◌, ap₂, inl, inr, arith}
use Rattle.std.proofs.lemmas.List.{length-append, length-take, length-drop}
use Rattle.std.proofs.lemmas.Bool.{lt-ltb, le-ltb, eq-eqb, ne_eqb, cases_order}
use Rattle.slots.specs.Stepped.{slot_of}
use Rattle.slots.specs.Steps.{place, last_of, wanting, split, lacks, put_in}
use Rattle.slots.specs.declared.slot.Slot.{Slot}
use Rattle.slots.proofs.Spans.{split_after, split_here, split_before}
use Rattle.slots.proofs.Lacking.{lacks_after, lacks_here, lacks_before}

pub put_in_length : {X : Type 0} (i : ℕ) (new xs : List X) → length (put_in i new xs) ≡ length xs + length new
put_in_length i new xs = simp (length-append, length-take, length-drop) (omega arith)

module _ {V : Type 0} (m : ℕ) where
  pub place_after : (x : Slot V) (xs : List (Slot V)) → x.minute < m → place m (x ∷ xs) ≡ suc (place m xs)
  place_after x xs l = rw (lt-ltb x.minute m l)

  pub place_here : (x : Slot V) (xs : List (Slot V)) → m ≤ x.minute → place m (x ∷ xs) ≡ 0
  place_here x xs l = rw (le-ltb x.minute m l)

  pub place_le : (xs : List (Slot V)) → place m xs ≤ length xs
  place_le [] = omega arith
  place_le (x ∷ xs) =
      elim (cases_order x.minute m) [
        | inl e ↦ omega (arith, place_here x xs (omega arith))
        | inr (inl k) ↦ omega (arith, place_after x xs k, place_le xs)
        | inr (inr k) ↦ omega (arith, place_here x xs (omega arith))
      ]

  wanting_after : (b : V) (x : Slot V) (xs : List (Slot V)) → x.minute < m → wanting m b (x ∷ xs) ≡ wanting m x.value xs
  wanting_after b x xs l = rw (lt-ltb x.minute m l)

  wanting_here : (b : V) (x : Slot V) (xs : List (Slot V)) → x.minute ≡ m → wanting m b (x ∷ xs) ≡ []
  wanting_here b x xs e = rw (le-ltb x.minute m (omega arith), eq-eqb x.minute m e)

  wanting_before : (b : V) (x : Slot V) (xs : List (Slot V)) → m < x.minute → wanting m b (x ∷ xs) ≡ slot_of m b ∷ []
  wanting_before b x xs l = rw (le-ltb x.minute m (omega arith), ne_eqb x.minute m (λ e. omega arith))

  pub wanting_length : (b : V) (xs : List (Slot V)) → length (wanting m b xs) ≡ lacks m xs
  wanting_length b [] = refl
  wanting_length b (x ∷ xs) =
      elim (cases_order x.minute m) [
        | inl e ↦ ap length (wanting_here b x xs e) ∙ sym (lacks_here m x xs e)
        | inr (inl k) ↦ ap length (wanting_after b x xs k) ∙ wanting_length x.value xs ∙ sym (lacks_after m x xs k)
        | inr (inr k) ↦ ap length (wanting_before b x xs k) ∙ sym (lacks_before m x xs k)
      ]

  pub wanting_there : (b : V) (xs : List (Slot V)) (i : ℕ) (s : Slot V) → i ≡ place m xs → i < length xs → (get_or xs i s).minute ≡ m → wanting m b xs ≡ []
  wanting_there b [] i s p l e = absurd (omega arith)
  wanting_there b (x ∷ xs) zero s p l e = wanting_here b x xs e
  wanting_there b (x ∷ xs) (suc i) s p l e =
      elim (cases_order x.minute m) [
        | inl k ↦ absurd (omega (arith, place_here x xs (omega arith)))
        | inr (inl k) ↦ wanting_after b x xs k ∙ wanting_there x.value xs i s (omega (arith, place_after x xs k)) (omega arith) e
        | inr (inr k) ↦ absurd (omega (arith, place_here x xs (omega arith)))
      ]

  pub wanting_new : (b : V) (xs : List (Slot V)) (i : ℕ) (s : Slot V) → i ≡ place m xs → (i < length xs → (get_or xs i s).minute ≡ m → ⊥) → wanting m b xs ≡ slot_of m (last_of b (take i xs)) ∷ []
  wanting_new b [] zero s p o = refl
  wanting_new b [] (suc i) s p o = absurd (omega arith)
  wanting_new b (x ∷ xs) zero s p o =
      elim (cases_order x.minute m) [
        | inl k ↦ absurd (o (omega arith) k)
        | inr (inl k) ↦ absurd (omega (arith, place_after x xs k))
        | inr (inr k) ↦ wanting_before b x xs k
      ]
  wanting_new b (x ∷ xs) (suc i) s p o =
      elim (cases_order x.minute m) [
        | inl k ↦ absurd (omega (arith, place_here x xs (omega arith)))
        | inr (inl k) ↦ wanting_after b x xs k ∙ wanting_new x.value xs i s (omega (arith, place_after x xs k)) (λ l. o (omega arith))
        | inr (inr k) ↦ absurd (omega (arith, place_here x xs (omega arith)))
      ]

  pub split_put : (b : V) (xs : List (Slot V)) → put_in (place m xs) (wanting m b xs) xs ≡ split m b xs
  split_put b [] = refl
  split_put b (x ∷ xs) =
      elim (cases_order x.minute m) [
        | inl e ↦ ap₂ (λ (i : ℕ) ws. put_in i ws (x ∷ xs)) (place_here x xs (omega arith)) (wanting_here b x xs e) ∙ sym (split_here m b x xs e)
        | inr (inl k) ↦ ap₂ (λ (i : ℕ) ws. put_in i ws (x ∷ xs)) (place_after x xs k) (wanting_after b x xs k) ∙ ap (λ ys. x ∷ ys) (split_put x.value xs) ∙ sym (split_after m b x xs k)
        | inr (inr k) ↦ ap₂ (λ (i : ℕ) ws. put_in i ws (x ∷ xs)) (place_here x xs (omega arith)) (wanting_before b x xs k) ∙ sym (split_before m b x xs k)
      ]

-- once a record stands at from, the place of a later minute, and the record to put there, are found among those from that place on
module _ {V : Type 0} (from until : ℕ) (l : from < until) where
  pub place_on : (b : V) (xs : List (Slot V)) → place until (split from b xs) ≡ place from xs + lacks from xs + place until (drop (place from xs) xs)
  place_on b [] = place_after until (slot_of from b) [] l
  place_on b (x ∷ xs) =
      elim (cases_order x.minute from) [
        | inl e ↦ ap (place until) (split_here from b x xs e) ∙ from_here (place_here from x xs (omega arith)) (lacks_here from x xs e)
        | inr (inl k) ↦ omega (arith, ap (place until) (split_after from b x xs k), place_after until x (split from x.value xs) (omega arith), place_on x.value xs, place_after from x xs k, lacks_after from x xs k, ap (λ (i : ℕ). place until (drop i (x ∷ xs))) (place_after from x xs k))
        | inr (inr k) ↦ omega (arith, ap (place until) (split_before from b x xs k), place_after until (slot_of from b) (x ∷ xs) l, lacks_before from x xs k, place_here from x xs (omega arith), ap (λ (i : ℕ). place until (drop i (x ∷ xs))) (place_here from x xs (omega arith)))
      ]
    where
      from_here : place from (x ∷ xs) ≡ 0 → lacks from (x ∷ xs) ≡ 0 → place until (x ∷ xs) ≡ place from (x ∷ xs) + lacks from (x ∷ xs) + place until (drop (place from (x ∷ xs)) (x ∷ xs))
      from_here p q = omega (arith, p, q, ap (λ (i : ℕ). place until (drop i (x ∷ xs))) p)

  pub wanting_on : (b : V) (xs : List (Slot V)) → wanting until b (split from b xs) ≡ wanting until (last_of b (take (place from xs) xs)) (drop (place from xs) xs)
  wanting_on b [] = wanting_after until b (slot_of from b) [] l
  wanting_on b (x ∷ xs) =
      elim (cases_order x.minute from) [
        | inl e ↦ ap (wanting until b) (split_here from b x xs e) ∙ sym (at_place (place_here from x xs (omega arith)))
        | inr (inl k) ↦ ap (wanting until b) (split_after from b x xs k) ∙ wanting_after until b x (split from x.value xs) (omega arith) ∙ wanting_on x.value xs ∙ sym (at_place (place_after from x xs k))
        | inr (inr k) ↦ ap (wanting until b) (split_before from b x xs k) ∙ wanting_after until b (slot_of from b) (x ∷ xs) l ∙ sym (at_place (place_here from x xs (omega arith)))
      ]
    where
      at_place : {i : ℕ} → place from (x ∷ xs) ≡ i → wanting until (last_of b (take (place from (x ∷ xs)) (x ∷ xs))) (drop (place from (x ∷ xs)) (x ∷ xs)) ≡ wanting until (last_of b (take i (x ∷ xs))) (drop i (x ∷ xs))
      at_place p = ap (λ (i : ℕ). wanting until (last_of b (take i (x ∷ xs))) (drop i (x ∷ xs))) p
