-- A board with one row more, with one row's state changed, with one row taken out, and with all taken out. Assumes nothing.
use Rattle.std.proofs.Common.{◌≡◌, ℕ, ◌+◌, ◌*◌, ◌<◌, ◌≤◌, Bool, List, [], ◌∷◌, ◌++◌, length, nat_lt, get_or, set, take, drop, Some, Result, is_ok, if◌then◌else◌, Decides, sym, ap, ◌∙◌, subst, add-one, arith}
use Rattle.std.proofs.lemmas.Bool.{lt-ltb}
use Rattle.std.proofs.lemmas.List.{set_split}
use Rattle.std.proofs.lemmas.List.Edits.{insert_end}
use Rattle.std.specs.List.{insert, remove}
use Rattle.slots.specs.declared.value.Value as value
use Rattle.lent.specs.Lists.{items, Refilled}
use Rattle.lent.specs.declared.lent.Lent.{Lent}
use Rattle.lent.specs.declared.lent.NoRoom.{NoRoom}
use Rattle.slots.specs.SlotLists.{records, change_answer, Rewritten}
use Rattle.slots.specs.Stepped.{edited}
use Rattle.slots.specs.Steps.{lacks}
use Rattle.slots.specs.declared.list.SlotList.{SlotList}
use Rattle.slots.specs.declared.list.Unchanged.{Unchanged}
use Rattle.units.specs.Kinds.{Kind, Lawful}
use Rattle.units.specs.declared.kind.Units as units
use Rattle.bookings.specs.Bookings.{FitsBeside}
use Rattle.bookings.specs.Rows.{bookings, numbered, replaced, row_of}
use Rattle.bookings.specs.declared.row.Row.{Row}
use Rattle.bookings.specs.declared.row.State.{State}
use Rattle.bookings.specs.declared.row.State.TheVariants.{Blank}
use Rattle.board.specs.Adding.{MayEnter, NumbersFit}
use Rattle.board.specs.Places.{Placed}
use Rattle.board.specs.Views.{holding}
use Rattle.board.specs.declared.board.Board.{Board}
use Rattle.board.proofs.Keeps.{laws, proper_one, room_to_enter, room_to_remove, enters_kept, state_kept, gone_kept, emptied_kept}
use Rattle.board.proofs.Outcomes.{Outcome, outcome}
use Rattle.board.proofs.Reslotted.{reslotted, same_list}

-- the row that was read at its place is the row of that number
pub read_is : {L : Type 0} (n place : ℕ) (rows : List (Row L)) (row : Row L) → Placed n rows (Some place) → row ≡ get_or rows place row → numbered n rows ≡ Some row
read_is n place rows row placed read = placed.1 row ∙ ap (λ r. Some r) (sym read)

module _ {L : Type 0} {u : units.Ghosts L} {e : value.Ghosts L} (lawful : Lawful u.kind) (was : Board L u e) where
  abbrev k : Kind L
  k = u.kind

  abbrev live : List (Row L)
  live = items was.rows

  -- a change of the slots over a booking's span, where the records find room
  module _ (same : L → L → Bool) (told : (a b : L) → Decides (same a b) (a ≡ b)) (f : L → L) (from until : ℕ) (span : from < until)
      (enough : length (records was.slots) + (lacks from (records was.slots) + lacks until (records was.slots)) ≤ 2 * was.rows.room) (q : Result (Unit {0}) Unchanged) (slots : SlotList L)
      (answer : q ≡ change_answer from until was.slots.lent.room (records was.slots))
      (list : Rewritten was.slots (if is_ok q then edited same f from until was.slots.floor (records was.slots) else records was.slots) slots) where
    respanned : Rewritten was.slots (edited k.same f from until k.nothing (records was.slots)) slots
    respanned = reslotted k was.capacity (laws k lawful was.slots.floor (holding was) was.keeping) same told was.slots was.keeping.floor_is f from until span (omega (arith, enough, was.slots_room)) q slots answer list

  -- ONE MORE
  module _ (same : L → L → Bool) (told : (a b : L) → Decides (same a b) (a ≡ b)) (next : ℕ) (row : Row L) (may : MayEnter k (holding was) next row) (beside : FitsBeside k was.capacity (bookings live) row.booking)
      (below : ℕ) (below_is : below ≡ length live) (r : Result (Unit {0}) NoRoom) (rows : Lent (Row L)) (room : is_ok r ≡ nat_lt (length live) was.rows.room) (list : Refilled was.rows (if is_ok r then insert live below row else live) rows)
      (q : Result (Unit {0}) Unchanged) (slots : SlotList L) (answer : q ≡ change_answer row.booking.start row.booking.end was.slots.lent.room (records was.slots))
      (list' : Rewritten was.slots (if is_ok q then edited same (k.put was.capacity row.booking.claim) row.booking.start row.booking.end was.slots.floor (records was.slots) else records was.slots) slots) where
    longer : Refilled was.rows (live ++ row ∷ []) rows
    longer =
        subst (λ xs. Refilled was.rows xs rows) (ap (λ (n : ℕ). insert live n row) below_is ∙ insert_end live row)
        (subst (λ (b : Bool). Refilled was.rows (if b then insert live below row else live) rows) (room ∙ lt-ltb (length live) was.rows.room may.a_row_left) list)

    pub added : Outcome k was rows slots was.capacity was.horizon next (live ++ row ∷ []) (edited k.same (k.put was.capacity row.booking.claim) row.booking.start row.booking.end k.nothing (records was.slots))
    added =
        outcome k was rows slots was.capacity was.horizon next _ _ longer
        (respanned same told (k.put was.capacity row.booking.claim) row.booking.start row.booking.end may.proper.has_minutes (room_to_enter k lawful was.slots.floor (holding was) was.keeping row.booking.start row.booking.end may.a_row_left) q slots answer list')
        (enters_kept k lawful was.slots.floor (holding was) was.keeping next row may beside)

  -- A ROW THAT STANDS
  module _ (n place : ℕ) (placed : Placed n live (Some place)) (row : Row L) (read : row ≡ get_or live place row) where
    pub numbered_is : numbered n live ≡ Some row
    numbered_is = read_is n place live row placed read

    module _ (s : State) (there : s ≡ Blank → ⊥) (rows : Lent (Row L)) (list : Refilled was.rows (set live place (row_of row.number row.booking s)) rows) where
      pub restated : Outcome k was rows was.slots was.capacity was.horizon was.next (replaced n (row_of row.number row.booking s ∷ []) live) (records was.slots)
      restated =
          let new = row_of row.number row.booking s in
          let made : set live place new ≡ replaced n (new ∷ []) live = set_split live place new placed.0 ∙ ap (λ (i : ℕ). take place live ++ new ∷ drop i live) (sym (add-one place)) ∙ sym (placed.2 (new ∷ [])) in
          outcome k was rows was.slots was.capacity was.horizon was.next _ _ (subst (λ xs. Refilled was.rows xs rows) made list) (same_list was.slots)
          (state_kept k lawful was.slots.floor (holding was) was.keeping n row numbered_is s there)

    module _ (same : L → L → Bool) (told : (a b : L) → Decides (same a b) (a ≡ b)) (rows : Lent (Row L)) (list : Refilled was.rows (remove live place) rows)
        (q : Result (Unit {0}) Unchanged) (slots : SlotList L) (answer : q ≡ change_answer row.booking.start row.booking.end was.slots.lent.room (records was.slots))
        (list' : Rewritten was.slots (if is_ok q then edited same (k.lift row.booking.claim) row.booking.start row.booking.end was.slots.floor (records was.slots) else records was.slots) slots) where
      pub unbooked : Outcome k was rows slots was.capacity was.horizon was.next (replaced n [] live) (edited k.same (k.lift row.booking.claim) row.booking.start row.booking.end k.nothing (records was.slots))
      unbooked =
          let made : remove live place ≡ replaced n [] live = ap (λ (i : ℕ). take place live ++ drop i live) (sym (add-one place)) ∙ sym (placed.2 []) in
          let span = (proper_one k was.horizon n live row was.keeping.proper numbered_is).has_minutes in
          outcome k was rows slots was.capacity was.horizon was.next _ _ (subst (λ xs. Refilled was.rows xs rows) made list)
          (respanned same told (k.lift row.booking.claim) row.booking.start row.booking.end span (room_to_remove k lawful was.slots.floor (holding was) was.keeping n row numbered_is) q slots answer list')
          (gone_kept k lawful was.slots.floor (holding was) was.keeping n row numbered_is)

  -- NONE
  pub emptied_now : (c h next : ℕ) → NumbersFit k c h next → (rows : Lent (Row L)) (slots : SlotList L) → Refilled was.rows [] rows → Rewritten was.slots [] slots → Outcome k was rows slots c h next [] []
  emptied_now c h next numbers rows slots r s = outcome k was rows slots c h next [] [] r s (emptied_kept k lawful was.slots.floor c h was.rows.room next was.keeping.floor_is numbers was.keeping.room_fits)
