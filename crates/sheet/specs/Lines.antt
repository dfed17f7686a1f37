-- The lines of a sheet. Byte 10 ends a line and is no part of it; the last line may lack it. Assumes nothing.
use Rattle.std.specs.Prelude.{ℕ, suc, ◌+◌, min, cond, List, [], ◌∷◌, ◌++◌, length, take, drop, ◌==◌}

-- some bytes, and the place in the sheet where they begin
pub record Part : Type 0 where
  pub at : ℕ
  pub bytes : List ℕ

abbrev pub part : ℕ → List ℕ → Part
part place bs = record { at = place; bytes = bs }

-- one more byte in front of the first of some byte strings
abbrev pub onto : ℕ → List (List ℕ) → List (List ℕ)
onto b [] = (b ∷ []) ∷ []
onto b (l ∷ ls) = (b ∷ l) ∷ ls

abbrev pub lines : List ℕ → List (List ℕ)
lines [] = []
lines (b ∷ bs) = cond (b == 10) ([] ∷ lines bs) (onto b (lines bs))

-- the lines with their places: the first begins at the place given, and each other one behind the end of the one before
abbrev pub placed : ℕ → List (List ℕ) → List Part
placed place [] = []
placed place (l ∷ ls) = part place l ∷ placed (place + length l + 1) ls

abbrev pub parts : List ℕ → List Part
parts sheet = placed 0 (lines sheet)

-- lines laid one behind another, each with its end
abbrev pub ended : List (List ℕ) → List ℕ
ended [] = []
ended (l ∷ ls) = l ++ (10 ∷ ended ls)

-- how many bytes stand before the first mark
abbrev pub length_before : ℕ → List ℕ → ℕ
length_before mark [] = 0
length_before mark (b ∷ bs) = cond (b == mark) 0 (suc (length_before mark bs))

-- the line that begins at a place of the sheet: the bytes up to its end
abbrev pub line_at : List ℕ → ℕ → List ℕ
line_at sheet place = take (length_before 10 (drop place sheet)) (drop place sheet)

-- the place behind that line and its end
abbrev pub place_after : List ℕ → ℕ → ℕ
place_after sheet place = min (length sheet) (place + length_before 10 (drop place sheet) + 1)
