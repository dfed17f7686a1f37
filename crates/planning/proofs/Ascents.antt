-- What stands before, at and after the records of an ascending list. Assumes nothing.
use Rattle.std.proofs.Common.{◌≡◌, ℕ, zero, suc, ◌+◌, ◌<◌, ◌≤◌, true, cond, leb, List, [], ◌∷◌, ◌++◌, length, get_or, drop, sym, refl, ap, ◌∙◌, subst, arith}
use Rattle.std.proofs.lemmas.List.{at_drop_more}
use Rattle.std.proofs.lemmas.Bool.{le-leb, lt-leb, leb-true, and_parts, and_from}
use Rattle.slots.specs.Stepped.{at, Ascending, Canonical, ascends}
use Rattle.slots.specs.declared.slot.Slot.{Slot}

-- what is left of a list that is walked begins with what was read
pub next : {X Y : Type 0} (F : List X → Y) (xs : List X) (i : ℕ) (x : X) → i < length xs → x ≡ get_or xs i x → F (drop i xs) ≡ F (x ∷ drop (i + 1) xs)
next F xs i x within read = at_drop_more F xs i x within ∙ ap (λ y. F (y ∷ drop (i + 1) xs)) (sym read)

module _ {L : Type 0} where
  pub early : (low : ℕ) (b : L) (xs : List (Slot L)) (m : ℕ) → Ascending low xs → m < low → at b xs m ≡ b
  early low b [] m h l = refl
  early low b (x ∷ xs) m h l = rw (lt-leb x.minute m (omega arith)) (early (suc x.minute) b xs m h.1 (omega arith))

  pub at_before : (low : ℕ) (b : L) (x : Slot L) (xs : List (Slot L)) (m : ℕ) → Ascending low (x ∷ xs) → m < x.minute → at b (x ∷ xs) m ≡ b
  at_before low b x xs m h l = rw (lt-leb x.minute m l) (early (suc x.minute) b xs m h.1 (omega arith))

  pub at_after : (b : L) (x : Slot L) (xs : List (Slot L)) (m : ℕ) → x.minute ≤ m → at b (x ∷ xs) m ≡ at x.value xs m
  at_after b x xs m l = rw (le-leb x.minute m l)

  -- the last record decides, from its minute on
  pub at_push : (b : L) (x : Slot L) (xs : List (Slot L)) (m : ℕ) → at b (xs ++ (x ∷ [])) m ≡ cond (leb x.minute m) x.value (at b xs m)
  at_push b x [] m = refl
  at_push b x (y ∷ xs) m = at_push (cond (leb y.minute m) y.value b) x xs m

  pub ascending : (low : ℕ) (xs : List (Slot L)) → ascends low xs ≡ true → Ascending low xs
  ascending low [] h = tt
  ascending low (x ∷ xs) h =
      let parts = and_parts (leb low x.minute) (ascends (suc x.minute) xs) h in
      (leb-true low x.minute parts.0, ascending (suc x.minute) xs parts.1)

  -- for a caller whose list is canonical
  pub canonical_ascends : (low : ℕ) (b : L) (xs : List (Slot L)) → Canonical low b xs → ascends low xs ≡ true
  canonical_ascends low b [] h = refl
  canonical_ascends low b (x ∷ xs) h = and_from (leb low x.minute) (ascends (suc x.minute) xs) (le-leb low x.minute h.0) (canonical_ascends (suc x.minute) x.value xs h.2)

  pub lowered : (low m : ℕ) (xs : List (Slot L)) → Ascending low xs → m ≤ low → Ascending m xs
  lowered low m [] h l = tt
  lowered low m (x ∷ xs) h l = (omega arith, h.1)

  -- from a record on
  pub onward : (low i : ℕ) (x : Slot L) (xs : List (Slot L)) → Ascending low xs → i < length xs → x ≡ get_or xs i x → (low ≤ x.minute) × Ascending x.minute (drop i xs) × Ascending (suc x.minute) (drop (suc i) xs)
  onward low i x [] h l e = absurd (omega arith)
  onward low zero x (y ∷ xs) h l e = subst (λ (v : Slot L). (low ≤ v.minute) × Ascending v.minute (y ∷ xs) × Ascending (suc v.minute) xs) (sym e) (h.0, (omega arith, h.1), h.1)
  onward low (suc i) x (y ∷ xs) h l e =
      let rest = onward (suc y.minute) i x xs h.1 (omega arith) e in
      (omega (arith, rest.0), rest.1, rest.2)
