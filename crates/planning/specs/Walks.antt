-- The records around a minute of an ascending list. Assumes nothing.
use Rattle.std.specs.Prelude.{◌≡◌, ℕ, suc, cond, List, [], ◌∷◌, take, drop, nat_le}
use Rattle.slots.specs.Stepped.{at, Ascending}
use Rattle.slots.specs.declared.slot.Slot.{Slot}
use Rattle.planning.specs.declared.walk.Around.{Around}

-- how many records stand at or before minute m
abbrev pub upto : {V : Type 0} → ℕ → List (Slot V) → ℕ
upto m [] = 0
upto m (s ∷ xs) = cond (nat_le s.minute m) (suc (upto m xs)) 0

-- the value of the last record, else the one that stood before
abbrev pub last_value : {V : Type 0} → V → List (Slot V) → V
last_value before [] = before
last_value before (s ∷ xs) = last_value s.value xs

-- the parts of the ascending records xs around a minute
pub record IsAround {V : Type 0} (nothing : V) (xs : List (Slot V)) (around : Around V) : Type 0 where
  pub ascending : Ascending 0 xs
  pub before_is : around.before.now ≡ take (upto around.minute xs) xs
  pub here_is : around.here ≡ at nothing xs around.minute
  pub after_is : around.after.now ≡ drop (upto around.minute xs) xs
