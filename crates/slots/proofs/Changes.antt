-- The list of a value's changes is canonical and says the value. Assumes nothing.
use Rattle.std.proofs.Common.{◌≡◌, ℕ, zero, suc, ◌+◌, ◌≤◌, Bool, true, false, cond, List, [], ◌∷◌, Decides, sym, refl, ap, ◌∙◌, subst, inl, inr, arith}
use Rattle.std.proofs.lemmas.Bool.{cases_eq, both_ways}
use Rattle.slots.specs.Stepped.{slot_of, at, Canonical, changes}
use Rattle.slots.specs.declared.slot.Slot.{Slot}
use Rattle.slots.proofs.Unique.{at_early, at_after, lower}

module _ {V : Type 0} (same : V → V → Bool) (told : (a b : V) → Decides (same a b) (a ≡ b)) (value : ℕ → V) where
  -- the record at m is there or not, by whether the value has changed
  canonical_head : (before : V) (m : ℕ) (rest : List (Slot V)) → Canonical (suc m) (value m) rest → (t : Bool) → same (value m) before ≡ t → Canonical m before (cond t rest (slot_of m (value m) ∷ rest))
  canonical_head before m rest h true e = subst (λ b. Canonical m b rest) ((told (value m) before).0 e) (lower m (suc m) (value m) rest (omega arith) h)
  canonical_head before m rest h false e = (omega arith, (λ p. both_ways (same (value m) before) e ((told (value m) before).1 p)), h)

  at_head : (before : V) (m : ℕ) (rest : List (Slot V)) (j : ℕ) → m ≤ j → (t : Bool) → same (value m) before ≡ t → at before (cond t rest (slot_of m (value m) ∷ rest)) j ≡ at (value m) rest j
  at_head before m rest j l true e = ap (λ v. at v rest j) (sym ((told (value m) before).0 e))
  at_head before m rest j l false e = at_after before (slot_of m (value m)) rest j l

  pub changes_canonical : (before : V) (m n : ℕ) → Canonical m before (changes same value before m n)
  changes_canonical before m zero = tt
  changes_canonical before m (suc n) = canonical_head before m (changes same value (value m) (suc m) n) (changes_canonical (value m) (suc m) n) (same (value m) before) refl

  -- of a value that does not change from m + n on
  pub changes_at : (before : V) (m n j : ℕ) → ((i : ℕ) → m + n ≤ i → value (m + n) ≡ value i) → m ≤ j → at before (changes same value before m (suc n)) j ≡ value j
  changes_at before m zero j still l =
      let e : m + 0 ≡ m = omega arith in
      at_head before m [] j l (same (value m) before) refl ∙ ap value (sym e) ∙ still j (omega arith)
  changes_at before m (suc n) j still l =
      let rest = changes same value (value m) (suc m) (suc n) in
      let e : m + suc n ≡ suc m + n = omega arith in
      at_head before m rest j l (same (value m) before) refl ∙
      elim (cases_eq m j) [
        | inl q ↦ at_early (suc m) (value m) (value m) rest j (changes_canonical (value m) (suc m) (suc n)) (omega arith) ∙ ap value q
        | inr n≢ ↦ changes_at (value m) (suc m) n j (λ i k. ap value (sym e) ∙ still i (omega arith)) (omega arith)
      ]
