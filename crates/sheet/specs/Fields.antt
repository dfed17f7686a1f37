-- The decimal fields of a line, as they are read and as they are written. Assumes nothing.
use Rattle.std.specs.Prelude.{ℕ, ◌+◌, ◌-◌, ◌*◌, Bool, true, false, cond, not, ◌&&◌, List, [], ◌∷◌, ◌++◌, length, Some, None, decimal, Option, ◌==◌, nat_le}
use Rattle.std.specs.Bool.{then_some}
use Rattle.std.specs.Str.{all_ascii_digits}
use Rattle.sheet.specs.Lines.{onto}

-- the number that digits write behind those of n
abbrev pub value_after : ℕ → List ℕ → ℕ
value_after n [] = n
value_after n (b ∷ bs) = value_after (n * 10 + (b - 48)) bs

-- not empty, and with no 0 in front of another byte
abbrev pub plain : List ℕ → Bool
plain [] = false
plain (b ∷ []) = true
plain (b ∷ c ∷ bs) = not (b == 48)

-- the number that a field writes, at most 4,294,967,295
abbrev pub number_of : List ℕ → Option ℕ
number_of field = then_some (plain field && (all_ascii_digits field && nat_le (value_after 0 field) 4294967295)) (value_after 0 field)

-- what stands between the spaces: one space splits two fields
abbrev pub fields : List ℕ → List (List ℕ)
fields [] = [] ∷ []
fields (b ∷ bs) = cond (b == 32) ([] ∷ fields bs) (onto b (fields bs))

abbrev pub with_first : Option ℕ → Option (List ℕ) → Option (List ℕ)
with_first None ns = None
with_first (Some n) None = None
with_first (Some n) (Some ns) = Some (n ∷ ns)

-- the number of each field, where each writes one
abbrev pub all_numbers : List (List ℕ) → Option (List ℕ)
all_numbers [] = Some []
all_numbers (f ∷ fs) = with_first (number_of f) (all_numbers fs)

-- the numbers that stand behind a letter: nothing, or fields with a space in front
abbrev pub numbers_of : List ℕ → Option (List ℕ)
numbers_of [] = Some []
numbers_of (b ∷ bs) = cond (b == 32) (all_numbers (fields bs)) None

-- the numbers where there are n of them
abbrev pub exactly : ℕ → Option (List ℕ) → Option (List ℕ)
exactly n None = None
exactly n (Some ns) = then_some (length ns == n) ns

-- numbers written with one space in front of each, before what ends the line
abbrev pub spaced : List ℕ → List ℕ → List ℕ
spaced end [] = end
spaced end (n ∷ ns) = 32 ∷ (decimal n ++ spaced end ns)
