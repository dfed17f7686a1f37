-- What a board's parts come to after a change of rows and slots, gathered for the board's ghost fields and contracts. Assumes nothing.
use Rattle.std.proofs.Common.{◌≡◌, ℕ, ◌*◌, List, drop, sym, refl, ap, ap₂, subst, ◌∙◌}
use Rattle.lent.specs.Lists.{items, Refilled}
use Rattle.lent.specs.declared.lent.Lent.{Lent}
use Rattle.lent.proofs.Refills.{items_are, behind_same}
use Rattle.slots.specs.SlotLists.{records, Rewritten}
use Rattle.slots.specs.declared.list.SlotList.{SlotList}
use Rattle.slots.specs.declared.slot.Slot.{Slot}
use Rattle.slots.specs.declared.value.Value as value
use Rattle.units.specs.Kinds.{Kind}
use Rattle.units.specs.declared.kind.Units as units
use Rattle.bookings.specs.Rows.{blank_row}
use Rattle.bookings.specs.declared.row.Row.{Row}
use Rattle.board.specs.Calls.{Holding}
use Rattle.board.specs.Keeping.{Keeping}
use Rattle.board.specs.Views.{behind, SameMemory}
use Rattle.board.specs.declared.board.Board.{Board}

module _ {L : Type 0} where
  abbrev pub holds : ℕ → ℕ → ℕ → ℕ → List (Row L) → List (Slot L) → Holding L
  holds c h room n rows slots = record { book = record { capacity = c; horizon = h; room = room; next = n; rows = rows }; slots = slots }

module _ {L : Type 0} {u : units.Ghosts L} {e : value.Ghosts L} (k : Kind L) (was : Board L u e) where
  -- with these rows, slots and numbers the board holds what it should, keeps what boards keep, and lies in the same memory
  pub record Outcome (rows : Lent (Row L)) (slots : SlotList L) (c h n : ℕ) (xs : List (Row L)) (ys : List (Slot L)) : Type 0 where
    pub rows_blank : rows.blank ≡ blank_row slots.floor
    pub slots_room : slots.lent.room ≡ 2 * rows.room
    pub keeping : Keeping k c h n rows.room slots.floor (items rows) (records slots)
    pub holding_is : holds c h rows.room n (items rows) (records slots) ≡ holds c h was.rows.room n xs ys
    pub behind_is : (drop rows.room rows.memory.now, drop slots.lent.room slots.lent.memory.now) ≡ behind was
    pub rows_lent : rows.memory.ghost_name ≡ was.rows.memory.ghost_name
    pub slots_lent : slots.lent.memory.ghost_name ≡ was.slots.lent.memory.ghost_name

  module _ (rows : Lent (Row L)) (slots : SlotList L) (c h n : ℕ) (xs : List (Row L)) (ys : List (Slot L)) (r : Refilled was.rows xs rows) (s : Rewritten was.slots ys slots) where
    rows_are : items rows ≡ xs
    rows_are = items_are was.rows rows xs r

    slots_are : records slots ≡ ys
    slots_are = items_are was.slots.lent slots.lent ys s.lent_is

    pub outcome : Keeping k c h n was.rows.room was.slots.floor xs ys → Outcome rows slots c h n xs ys
    outcome kept = record {
      rows_blank = r.blank_is ∙ was.rows_blank ∙ ap blank_row (sym s.floor_is);
      slots_room = s.lent_is.room_is ∙ was.slots_room ∙ ap (λ (m : ℕ). 2 * m) (sym r.room_is);
      keeping = subst (λ (m : ℕ). Keeping k c h n m slots.floor (items rows) (records slots)) (sym r.room_is)
          (subst (λ v. Keeping k c h n was.rows.room v (items rows) (records slots)) (sym s.floor_is)
          (subst (λ zs. Keeping k c h n was.rows.room was.slots.floor zs (records slots)) (sym rows_are)
          (subst (Keeping k c h n was.rows.room was.slots.floor xs) (sym slots_are) kept)));
      holding_is = ap₂ (λ (m : ℕ) zs. holds c h m n zs (records slots)) r.room_is rows_are ∙ ap (holds c h was.rows.room n xs) slots_are;
      behind_is = ap₂ (λ zs ws. (zs, ws)) (behind_same was.rows rows xs r) (behind_same was.slots.lent slots.lent ys s.lent_is);
      rows_lent = r.lent_is;
      slots_lent = s.lent_is.lent_is;
    }

-- the same memory through one change and another
module _ {L : Type 0} {u : units.Ghosts L} {e : value.Ghosts L} where
  pub unmoved : (was : Board L u e) → SameMemory was was
  unmoved was = record { behind_is = refl; rows_lent = refl; slots_lent = refl }

  pub moved_again : (was is then : Board L u e) → SameMemory was is → SameMemory is then → SameMemory was then
  moved_again was is then a b = record { behind_is = b.behind_is ∙ a.behind_is; rows_lent = b.rows_lent ∙ a.rows_lent; slots_lent = b.slots_lent ∙ a.slots_lent }
