-- A list in lent memory: the first records are in use, blanks stand behind them up to the list's room, and what lies beyond is not the list's. Assumes nothing.
use Rattle.std.specs.Prelude.{◌≡◌, ℕ, ◌-◌, ◌≤◌, List, ◌++◌, length, take, drop, replicate}

-- so many are in use, in that room, and the rest of the room is blank
pub record Laid {X : Type 0} (blank : X) (used room : ℕ) (memory : List X) : Type 0 where
  pub used_fits : used ≤ room
  pub room_fits : room ≤ length memory
  pub blank_behind : drop used (take room memory) ≡ replicate (room - used) blank

-- the memory once xs are in use in the room, and the rest of the room is blank
abbrev pub laid : {X : Type 0} → X → ℕ → List X → List X → List X
laid blank room xs memory = xs ++ (replicate (room - length xs) blank ++ drop room memory)
