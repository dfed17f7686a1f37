-- What a board holds, and the memory that it was lent, read off the board. Assumes nothing.
use Rattle.std.specs.Prelude.{◌≡◌, List, drop}
use Rattle.lent.specs.Lists.{items}
use Rattle.slots.specs.SlotLists.{records}
use Rattle.slots.specs.declared.slot.Slot.{Slot}
use Rattle.units.specs.declared.kind.Units as units
use Rattle.slots.specs.declared.value.Value as value
use Rattle.bookings.specs.declared.row.Row.{Row}
use Rattle.board.specs.Calls.{Holding}
use Rattle.board.specs.declared.board.Board.{Board}

module _ {L : Type 0} {u : units.Ghosts L} {e : value.Ghosts L} where
  -- its book and its slot list
  abbrev pub holding : Board L u e → Holding L
  holding b = record {
    book = record {
      capacity = b.capacity;
      horizon = b.horizon;
      room = b.rows.room;
      next = b.next;
      rows = items b.rows;
    };
    slots = records b.slots;
  }

  -- the lent rows and records that are not its own
  abbrev pub behind : Board L u e → List (Row L) × List (Slot L)
  behind b = (drop b.rows.room b.rows.memory.now, drop b.slots.lent.room b.slots.lent.memory.now)

  -- it lies in the same memory, and what is not its own is untouched
  pub record SameMemory (was is : Board L u e) : Type 0 where
    pub behind_is : behind is ≡ behind was
    pub rows_lent : is.rows.memory.ghost_name ≡ was.rows.memory.ghost_name
    pub slots_lent : is.slots.lent.memory.ghost_name ≡ was.slots.lent.memory.ghost_name
