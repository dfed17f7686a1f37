-- Values over the minutes, written as a list of records: from its minute on, each record's value stands. Assumes nothing.
use Rattle.std.specs.Prelude.{ℕ, zero, suc, ◌≤◌, max, Bool, true, cond, ◌&&◌, List, [], ◌∷◌, map, ◌≢◌, nat_le, nat_lt}
use Rattle.std.specs.Coded.{→_prop, Unit-prop, le_prop}
use mathlib.Core.HLevel.{×₃_prop, ⊥_prop}
use Rattle.slots.specs.declared.slot.Slot.{Slot}

abbrev pub slot_of : {V : Type 0} → ℕ → V → Slot V
slot_of m v = record { minute = m; value = v }

abbrev pub minutes : {V : Type 0} → List (Slot V) → List ℕ
minutes xs = map (λ s. s.minute) xs

-- the value of the last record at or before minute m, else the value that stood before
abbrev pub at : {V : Type 0} → V → List (Slot V) → ℕ → V
at before [] m = before
at before (s ∷ xs) m = at (cond (nat_le s.minute m) s.value before) xs m

-- minutes ascend strictly, from low on
abbrev pub Ascending : {V : Type 0} → ℕ → List (Slot V) → Type 0
Ascending low [] = Unit {0}
Ascending low (s ∷ xs) = (low ≤ s.minute) × Ascending (suc s.minute) xs

-- the same, as a test
abbrev pub ascends : {V : Type 0} → ℕ → List (Slot V) → Bool
ascends low [] = true
ascends low (s ∷ xs) = nat_le low s.minute && ascends (suc s.minute) xs

-- minutes ascend strictly, from low on, and no value repeats the one before
abbrev pub Canonical : {V : Type 0} → ℕ → V → List (Slot V) → Type 0
Canonical low before [] = Unit {0}
Canonical low before (s ∷ xs) = (low ≤ s.minute) × (s.value ≢ before) × Canonical (suc s.minute) s.value xs

-- there is one way at most for a list to be so
pub canonical_prop : {V : Type 0} (low : ℕ) (before : V) (xs : List (Slot V)) → IsProp (Canonical low before xs)
canonical_prop low before [] = Unit-prop
canonical_prop low before (s ∷ xs) = ×₃_prop le_prop (→_prop ⊥_prop) (canonical_prop (suc s.minute) s.value xs)

-- a minute from which on nothing changes
abbrev pub last_minute : {V : Type 0} → List (Slot V) → ℕ
last_minute [] = 0
last_minute (s ∷ xs) = max s.minute (last_minute xs)

-- minute m lies in the span: from its start on, and before its end
abbrev pub within : ℕ → ℕ → ℕ → Bool
within from until m = nat_le from m && nat_lt m until

-- a record at each of the n minutes from m on at which the value differs from the one before
abbrev pub changes : {V : Type 0} → (V → V → Bool) → (ℕ → V) → V → ℕ → ℕ → List (Slot V)
changes same value before m zero = []
changes same value before m (suc n) = let rest = changes same value (value m) (suc m) n in cond (same (value m) before) rest (slot_of m (value m) ∷ rest)

-- the list of the values with f done to those of the span
abbrev pub edited : {V : Type 0} → (V → V → Bool) → (V → V) → ℕ → ℕ → V → List (Slot V) → List (Slot V)
edited same f from until floor xs = changes same (λ m. let v = at floor xs m in cond (within from until m) (f v) v) floor 0 (suc (max until (last_minute xs)))
