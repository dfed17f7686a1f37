-- A stepped list in memory of its caller's, with numbers of its caller's, and what a change leaves in it. Assumes nothing.
use Rattle.std.specs.Prelude.{◌≡◌, List, length, take}
use Rattle.lent.specs.Memory.{Laid, laid}
use Rattle.slots.specs.Stepped.{slot_of, Canonical}
use Rattle.slots.specs.declared.slot.Slot.{Slot}
use Rattle.slots.specs.declared.loose.LooseList.{LooseList}

abbrev pub records : {V : Type 0} → LooseList V → List (Slot V)
records list = take list.used list.slots.now

-- the list is canonical, and blanks stand behind it
pub record Tidy {V : Type 0} (list : LooseList V) : Type 0 where
  pub laid_out : Laid (slot_of 0 list.floor) list.used list.room list.slots.now
  pub canonical : Canonical 0 list.floor (records list)

-- the same list with the records xs in place of its own
pub record Rewritten {V : Type 0} (was : LooseList V) (xs : List (Slot V)) (is : LooseList V) : Type 0 where
  pub used_is : is.used ≡ length xs
  pub room_is : is.room ≡ was.room
  pub floor_is : is.floor ≡ was.floor
  pub memory_is : is.slots.now ≡ laid (slot_of 0 was.floor) was.room xs was.slots.now
