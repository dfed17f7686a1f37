-- The edited list is canonical and says the changed values, and is what the steps of a change leave. Assumes nothing.
use Rattle.std.proofs.Common.{◌≡◌, ℕ, suc, ◌+◌, ◌<◌, ◌≤◌, max, Bool, cond, ltb, leb, List, [], ◌∷◌, length, Decides, sym, refl, ap, ◌∙◌, arith}
use Rattle.std.proofs.lemmas.Bool.{le-leb, le-ltb, and_right}
use Rattle.slots.specs.Stepped.{at, Ascending, last_minute, within, edited}
use Rattle.slots.specs.Steps.{lacks, changed_over}
use Rattle.slots.specs.Theorems.{EditedRight}
use Rattle.slots.specs.declared.slot.Slot.{Slot}
use Rattle.slots.proofs.Changes.{changes_canonical, changes_at}
use Rattle.slots.proofs.Spans.{changed_right}
use Rattle.slots.proofs.Unique.{unique}
use Rattle.slots.proofs.Lacking.{parted_length, changed_short}

module _ {V : Type 0} where
  -- nothing changes from the last minute on
  at_still : (b : V) (xs : List (Slot V)) (i j : ℕ) → last_minute xs ≤ i → i ≤ j → at b xs i ≡ at b xs j
  at_still b [] i j l u = refl
  at_still b (x ∷ xs) i j l u = rw (le-leb x.minute i (omega arith), le-leb x.minute j (omega arith)) (at_still x.value xs i j (omega arith) u)

  pub edited_right : EditedRight V
  edited_right same told f from until floor xs =
      let last = max until (last_minute xs) in
      let value = λ (m : ℕ). cond (within from until m) (f (at floor xs m)) (at floor xs m) in
      let still : (j : ℕ) → last ≤ j → value j ≡ at floor xs j = λ j l. ap (λ (t : Bool). cond t (f (at floor xs j)) (at floor xs j)) (and_right (leb from j) (ltb j until) (le-ltb j until (omega arith))) in (
        changes_canonical same told value floor 0 (suc last),
        λ m. changes_at same told value floor 0 last m (λ i l. still (0 + last) (omega arith) ∙ at_still floor xs (0 + last) i (omega arith) (omega arith) ∙ sym (still i (omega arith))) (omega arith),
      )

  module _ (same : V → V → Bool) (told : (a b : V) → Decides (same a b) (a ≡ b)) (f : V → V) (from until : ℕ) (floor : V) (xs : List (Slot V)) where
    -- however values are told the same
    pub edited_by_any : (other : V → V → Bool) → ((a b : V) → Decides (other a b) (a ≡ b)) → edited same f from until floor xs ≡ edited other f from until floor xs
    edited_by_any other tells =
        let a = edited_right same told f from until floor xs in
        let b = edited_right other tells f from until floor xs in
        unique floor 0 _ _ a.0 b.0 (λ m. a.1 m ∙ sym (b.1 m))

    pub changed_edited : from < until → Ascending 0 xs → changed_over same f from until floor xs ≡ edited same f from until floor xs
    changed_edited l h =
        let a = changed_right same told f from until l floor xs h in
        let b = edited_right same told f from until floor xs in
        unique floor 0 _ _ a.0 b.0 (λ m. a.1 m ∙ sym (b.1 m))

    pub edited_short : from < until → Ascending 0 xs → length (edited same f from until floor xs) ≤ length xs + (lacks from xs + lacks until xs)
    edited_short l h = omega (arith, ap length (changed_edited l h), changed_short same f from until floor xs, parted_length from until floor xs l)
