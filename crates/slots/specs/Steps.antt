-- The steps by which a list in memory is changed: a record at each end of the span, new values in it, repeats taken out. Assumes nothing.
use Rattle.std.specs.Prelude.{◌≡◌, ℕ, suc, ◌+◌, Bool, cond, List, [], ◌∷◌, ◌++◌, map, length, take, drop, Option, None, Some, ◌==◌, nat_lt}
use Rattle.slots.specs.Stepped.{slot_of, within}
use Rattle.slots.specs.declared.slot.Slot.{Slot}
use Rattle.slots.specs.declared.reads.Spot.{Spot}
use Rattle.slots.specs.declared.reads.Ends.{Ends}

-- how many records stand before m
abbrev pub place : {V : Type 0} → ℕ → List (Slot V) → ℕ
place m [] = 0
place m (s ∷ xs) = cond (nat_lt s.minute m) (suc (place m xs)) 0

-- the value after the records
abbrev pub last_of : {V : Type 0} → V → List (Slot V) → V
last_of before [] = before
last_of before (s ∷ xs) = last_of s.value xs

-- the record to put at m, which repeats the value before it, or none where one stands there
abbrev pub wanting : {V : Type 0} → ℕ → V → List (Slot V) → List (Slot V)
wanting m before [] = slot_of m before ∷ []
wanting m before (s ∷ xs) = cond (nat_lt s.minute m) (wanting m s.value xs) (cond (s.minute == m) [] (slot_of m before ∷ []))

-- the records with one at m
abbrev pub split : {V : Type 0} → ℕ → V → List (Slot V) → List (Slot V)
split m before [] = slot_of m before ∷ []
split m before (s ∷ xs) = cond (nat_lt s.minute m) (s ∷ split m s.value xs) (cond (s.minute == m) (s ∷ xs) (slot_of m before ∷ s ∷ xs))

-- 1 where no record stands at m, else 0
abbrev pub lacks : {V : Type 0} → ℕ → List (Slot V) → ℕ
lacks m [] = 1
lacks m (s ∷ xs) = cond (nat_lt s.minute m) (lacks m xs) (cond (s.minute == m) 0 1)

-- the record with its value changed, if it stands in the span
abbrev pub remade : {V : Type 0} → (V → V) → ℕ → ℕ → Slot V → Slot V
remade f from until s = slot_of s.minute (cond (within from until s.minute) (f s.value) s.value)

-- the records without those that repeat the value before them
abbrev pub settled : {V : Type 0} → (V → V → Bool) → V → List (Slot V) → List (Slot V)
settled same before [] = []
settled same before (s ∷ xs) = let rest = settled same s.value xs in cond (same s.value before) rest (s ∷ rest)

-- with a record at each end of the span
abbrev pub parted : {V : Type 0} → ℕ → ℕ → V → List (Slot V) → List (Slot V)
parted from until floor xs = split until floor (split from floor xs)

-- the records with the values in the span changed
abbrev pub changed_over : {V : Type 0} → (V → V → Bool) → (V → V) → ℕ → ℕ → V → List (Slot V) → List (Slot V)
changed_over same f from until floor xs = settled same floor (map (remade f from until) (parted from until floor xs))

-- the same, where only the records from the place i on are gone over
abbrev pub changed_from : {V : Type 0} → (V → V → Bool) → (V → V) → ℕ → ℕ → ℕ → V → List (Slot V) → List (Slot V)
changed_from same f from until i before xs = take i xs ++ settled same before (map (remade f from until) (drop i xs))

-- with new ones at the place i
abbrev pub put_in : {X : Type 0} → ℕ → List X → List X → List X
put_in i new xs = take i xs ++ (new ++ drop i xs)

-- the record, if it is one, as a list
abbrev pub at_most_one : {X : Type 0} → Option X → List X
at_most_one None = []
at_most_one (Some x) = x ∷ []

-- the record to put at a spot, or none where one stands there
abbrev pub put_of : {V : Type 0} → Spot V → List (Slot V)
put_of spot = at_most_one spot.lacking

-- the spot is where a record at m stands or goes
pub record Found {V : Type 0} (m : ℕ) (before : V) (xs : List (Slot V)) (spot : Spot V) : Type 0 where
  pub place_is : spot.place ≡ place m xs
  pub before_is : spot.before ≡ last_of before (take spot.place xs)
  pub wanting_is : wanting m before xs ≡ put_of spot

-- the records with those of both ends put in, where the end's place is counted from the start's on
abbrev pub both_in : {V : Type 0} → Ends V → List (Slot V) → List (Slot V)
both_in ends xs = put_in (ends.start.place + length (put_of ends.start) + ends.end.place) (put_of ends.end) (put_in ends.start.place (put_of ends.start) xs)
