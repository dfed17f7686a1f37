-- How many records a change wants, and how many it leaves at most. Assumes nothing.
use Rattle.std.proofs.Common.{◌≡◌, ℕ, suc, ◌+◌, ◌<◌, ◌≤◌, Bool, List, [], ◌∷◌, map, length, sym, ap, ◌∙◌, inl, inr, arith}
use Rattle.std.proofs.lemmas.List.{length-map}
use Rattle.std.proofs.lemmas.Bool.{lt-ltb, le-ltb, eq-eqb, ne_eqb, cases_order, cond_both}
use Rattle.slots.specs.Stepped.{slot_of}
use Rattle.slots.specs.Steps.{split, lacks, remade, settled, parted, changed_over}
use Rattle.slots.specs.declared.slot.Slot.{Slot}
use Rattle.slots.proofs.Spans.{split_after, split_here, split_before}

module _ {V : Type 0} where
  pub lacks_after : (m : ℕ) (x : Slot V) (xs : List (Slot V)) → x.minute < m → lacks m (x ∷ xs) ≡ lacks m xs
  lacks_after m x xs l = rw (lt-ltb x.minute m l)

  pub lacks_here : (m : ℕ) (x : Slot V) (xs : List (Slot V)) → x.minute ≡ m → lacks m (x ∷ xs) ≡ 0
  lacks_here m x xs e = rw (le-ltb x.minute m (omega arith), eq-eqb x.minute m e)

  pub lacks_before : (m : ℕ) (x : Slot V) (xs : List (Slot V)) → m < x.minute → lacks m (x ∷ xs) ≡ 1
  lacks_before m x xs l = rw (le-ltb x.minute m (omega arith), ne_eqb x.minute m (λ e. omega arith))

  split_length : (m : ℕ) (b : V) (xs : List (Slot V)) → length (split m b xs) ≡ length xs + lacks m xs
  split_length m b [] = omega arith
  split_length m b (x ∷ xs) =
      elim (cases_order x.minute m) [
        | inl e ↦ omega (arith, ap length (split_here m b x xs e), lacks_here m x xs e)
        | inr (inl k) ↦ omega (arith, ap length (split_after m b x xs k), lacks_after m x xs k, split_length m x.value xs)
        | inr (inr k) ↦ omega (arith, ap length (split_before m b x xs k), lacks_before m x xs k)
      ]

  lacks_few : (m : ℕ) (xs : List (Slot V)) → lacks m xs ≤ 1
  lacks_few m [] = omega arith
  lacks_few m (x ∷ xs) =
      elim (cases_order x.minute m) [
        | inl e ↦ omega (arith, lacks_here m x xs e)
        | inr (inl k) ↦ omega (arith, lacks_after m x xs k, lacks_few m xs)
        | inr (inr k) ↦ omega (arith, lacks_before m x xs k)
      ]

  -- a change wants room for two records more at most
  pub two_more : (from until : ℕ) (xs : List (Slot V)) → length xs + (lacks from xs + lacks until xs) ≤ length xs + 2
  two_more from until xs = omega (arith, lacks_few from xs, lacks_few until xs)

  pub lacks_still : (from until : ℕ) (b : V) (xs : List (Slot V)) → from < until → lacks until (split from b xs) ≡ lacks until xs
  lacks_still from until b [] l = lacks_after until (slot_of from b) [] l
  lacks_still from until b (x ∷ xs) l =
      elim (cases_order x.minute from) [
        | inl e ↦ ap (lacks until) (split_here from b x xs e)
        | inr (inl k) ↦ ap (lacks until) (split_after from b x xs k) ∙ lacks_after until x (split from x.value xs) (omega arith) ∙ lacks_still from until x.value xs l ∙ sym (lacks_after until x xs (omega arith))
        | inr (inr k) ↦ ap (lacks until) (split_before from b x xs k) ∙ lacks_after until (slot_of from b) (x ∷ xs) l
      ]

  pub parted_length : (from until : ℕ) (b : V) (xs : List (Slot V)) → from < until → length (parted from until b xs) ≡ length xs + (lacks from xs + lacks until xs)
  parted_length from until b xs l = omega (arith, split_length until b (split from b xs), split_length from b xs, lacks_still from until b xs l)

  settled_short : (same : V → V → Bool) (b : V) (xs : List (Slot V)) → length (settled same b xs) ≤ length xs
  settled_short same b [] = omega arith
  settled_short same b (x ∷ xs) =
      let r = settled_short same x.value xs in
      let rest = settled same x.value xs in
      cond_both (same x.value b) rest (x ∷ rest) (λ ys. length ys ≤ suc (length xs)) (λ _. omega arith) (λ _. omega arith)

  pub changed_short : (same : V → V → Bool) (f : V → V) (from until : ℕ) (b : V) (xs : List (Slot V)) → length (changed_over same f from until b xs) ≤ length (parted from until b xs)
  changed_short same f from until b xs = omega (arith, settled_short same b (map (remade f from until) (parted from until b xs)), length-map (parted from until b xs) (remade f from until))
