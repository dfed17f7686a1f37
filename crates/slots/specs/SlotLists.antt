-- A stepped list over lent memory, and what a change leaves in it. Assumes nothing.
use Rattle.std.specs.Prelude.{◌≡◌, ℕ, ◌+◌, Bool, cond, ◌&&◌, List, length, Result, Ok, Err, nat_le, nat_lt}
use Rattle.lent.specs.Lists.{items, Refilled}
use Rattle.slots.specs.Steps.{lacks}
use Rattle.slots.specs.declared.slot.Slot.{Slot}
use Rattle.slots.specs.declared.list.SlotList.{SlotList}
use Rattle.slots.specs.declared.list.Unchanged.{Unchanged}
use Rattle.slots.specs.declared.list.Unchanged.TheVariants.{NoMinute, NoRoom}

abbrev pub records : {V : Type 0} → SlotList V → List (Slot V)
records list = items list.lent

-- the records with one at each end of the span find room
abbrev pub finds_room : {V : Type 0} → ℕ → ℕ → ℕ → List (Slot V) → Bool
finds_room from until room xs = nat_le (length xs + (lacks from xs + lacks until xs)) room

-- the span has a minute, and the records with one at each of its ends find room
abbrev pub changeable : {V : Type 0} → ℕ → ℕ → ℕ → List (Slot V) → Bool
changeable from until room xs = nat_lt from until && finds_room from until room xs

-- what a change answers: done, or why not
abbrev pub change_answer : {V : Type 0} → ℕ → ℕ → ℕ → List (Slot V) → Result (Unit {0}) Unchanged
change_answer from until room xs = cond (nat_lt from until) (cond (finds_room from until room xs) (Ok tt) (Err NoRoom)) (Err NoMinute)

-- the same list with the records xs in place of its own
pub record Rewritten {V : Type 0} (was : SlotList V) (xs : List (Slot V)) (is : SlotList V) : Type 0 where
  pub lent_is : Refilled was.lent xs is.lent
  pub floor_is : is.floor ≡ was.floor
