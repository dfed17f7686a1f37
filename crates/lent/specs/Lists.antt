-- A list in lent memory as the list of its items, and what a change of them leaves in the memory. Assumes nothing.
use Rattle.std.specs.Prelude.{◌≡◌, List, length, take}
use Rattle.lent.specs.Memory.{laid}
use Rattle.lent.specs.declared.lent.Lent.{Lent}

abbrev pub items : {T : Type 0} → Lent T → List T
items list = take list.used list.memory.now

-- the same list with the items xs in place of its own: in the same memory, of which nothing beyond its room is touched
pub record Refilled {T : Type 0} (was : Lent T) (xs : List T) (is : Lent T) : Type 0 where
  pub used_is : is.used ≡ length xs
  pub room_is : is.room ≡ was.room
  pub blank_is : is.blank ≡ was.blank
  pub memory_is : is.memory.now ≡ laid was.blank was.room xs was.memory.now
  pub lent_is : is.memory.ghost_name ≡ was.memory.ghost_name
