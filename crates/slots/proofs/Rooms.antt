-- Each record's minute is one of those that were there, or the new one, so there are few. Assumes nothing.
use Rattle.std.proofs.Common.{◌≡◌, ℕ, suc, ◌≤◌, cond, eqb, ltb, ◌⊎◌, List, [], ◌∷◌, map, length, sym, refl, ap, ◌∙◌, subst, inl, inr, arith}
use Rattle.std.proofs.lemmas.List.{length-map}
use Rattle.std.proofs.lemmas.Bool.{cases_order}
use Rattle.slots.specs.Lists.{In}
use Rattle.slots.specs.Stepped.{slot_of, Ascending, minutes}
use Rattle.slots.specs.Steps.{split, lacks}
use Rattle.slots.specs.Theorems.{RoomEnough}
use Rattle.slots.specs.declared.slot.Slot.{Slot}
use Rattle.slots.proofs.Lacking.{parted_length}
use Rattle.slots.proofs.Spans.{split_after, split_here, split_before, split_ascending}

-- a list without one element that stands in it
without : (n : ℕ) (ys : List ℕ) → In n ys → List ℕ
without n [] i = absurd i
without n (y ∷ ys) (inl e) = ys
without n (y ∷ ys) (inr i) = y ∷ without n ys i

length_without : (n : ℕ) (ys : List ℕ) (i : In n ys) → suc (length (without n ys i)) ≡ length ys
unfolding without
length_without n [] i = absurd i
length_without n (y ∷ ys) (inl e) = refl
length_without n (y ∷ ys) (inr i) = ap suc (length_without n ys i)

in_without : (n : ℕ) (ys : List ℕ) (i : In n ys) (m : ℕ) → In m ys → (m ≡ n → ⊥) → In m (without n ys i)
unfolding without
in_without n [] i m j o = absurd i
in_without n (y ∷ ys) (inl e) m (inl q) o = absurd (o (q ∙ sym e))
in_without n (y ∷ ys) (inl e) m (inr j) o = j
in_without n (y ∷ ys) (inr i) m (inl q) o = inl q
in_without n (y ∷ ys) (inr i) m (inr j) o = inr (in_without n ys i m j o)

module _ {V : Type 0} where
  not_low : (low : ℕ) (xs : List (Slot V)) → Ascending low xs → (n : ℕ) → In n (minutes xs) → low ≤ n
  not_low low [] h n i = absurd i
  not_low low (x ∷ xs) h n (inl e) = omega arith
  not_low low (x ∷ xs) h n (inr i) = omega (arith, not_low (suc x.minute) xs h.1 n i)

  -- as many as stand, each at a place of its own
  pub no_more : (low : ℕ) (xs : List (Slot V)) (ys : List ℕ) → Ascending low xs → ((n : ℕ) → In n (minutes xs) → In n ys) → length xs ≤ length ys
  no_more low [] ys h from = omega arith
  no_more low (x ∷ xs) ys h from =
      let i = from x.minute (inl refl) in
      let rest = no_more (suc x.minute) xs (without x.minute ys i) h.1 (λ n j. in_without x.minute ys i n (from n (inr j)) (λ e. omega (arith, not_low (suc x.minute) xs h.1 n j))) in
      omega (arith, length_without x.minute ys i)

  split_minutes : (m : ℕ) (b : V) (xs : List (Slot V)) (n : ℕ) → In n (minutes (split m b xs)) → (n ≡ m) ⊎ In n (minutes xs)
  split_minutes m b [] n (inl e) = inl e
  split_minutes m b [] n (inr i) = absurd i
  split_minutes m b (x ∷ xs) n i =
      elim (cases_order x.minute m) [
        | inl e ↦ inr (subst (λ ys. In n (minutes ys)) (split_here m b x xs e) i)
        | inr (inl k) ↦ elim (subst (λ ys. In n (minutes ys)) (split_after m b x xs k) i) [
          | inl e ↦ inr (inl e)
          | inr j ↦ elim (split_minutes m x.value xs n j) [ inl e ↦ inl e | inr l ↦ inr (inr l) ]
        ]
        | inr (inr k) ↦ subst (λ ys. In n (minutes ys)) (split_before m b x xs k) i
      ]

module _ {V : Type 0} where
  -- the records' minutes alone
  abbrev bare : List (Slot V) → List (Slot (Unit {0}))
  bare xs = map (λ s. slot_of s.minute (tt {0})) xs

  bare_ascending : (low : ℕ) (xs : List (Slot V)) → Ascending low xs → Ascending low (bare xs)
  bare_ascending low [] h = tt
  bare_ascending low (x ∷ xs) h = (h.0, bare_ascending (suc x.minute) xs h.1)

  bare_lacks : (m : ℕ) (xs : List (Slot V)) → lacks m (bare xs) ≡ lacks m xs
  bare_lacks m [] = refl
  bare_lacks m (x ∷ xs) = ap (λ (n : ℕ). cond (ltb x.minute m) n (cond (eqb x.minute m) 0 1)) (bare_lacks m xs)

  bare_minutes : (xs : List (Slot V)) → minutes (bare xs) ≡ minutes xs
  bare_minutes [] = refl
  bare_minutes (x ∷ xs) = ap (λ ms. x.minute ∷ ms) (bare_minutes xs)

  pub room_enough : RoomEnough V
  room_enough from until xs ends l h all start end =
      let once = split from (tt {0}) (bare xs) in
      let a = split_ascending 0 from (tt {0}) (bare xs) (bare_ascending 0 xs h) (omega arith) in
      let b = split_ascending 0 until (tt {0}) once a (omega arith) in
      let fits = no_more 0 (split until (tt {0}) once) ends b (λ n i. elim (split_minutes until (tt {0}) once n i) [
        | inl e ↦ subst (λ k. In k ends) (sym e) end
        | inr j ↦ elim (split_minutes from (tt {0}) (bare xs) n j) [ inl e ↦ subst (λ k. In k ends) (sym e) start | inr l ↦ all n (subst (λ ms. In n ms) (bare_minutes xs) l) ]
      ]) in
      omega (arith, parted_length from until (tt {0}) (bare xs) l, length-map xs (λ s. slot_of s.minute (tt {0})), bare_lacks from xs, bare_lacks until xs)
