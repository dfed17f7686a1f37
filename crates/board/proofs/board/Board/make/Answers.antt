use Rattle.std.proofs.Common.{◌≡◌, ℕ, length, [], sym, ap, ap₂, subst, ◌∙◌, arith}
use Rattle.lent.specs.Lists.{items}
use Rattle.lent.specs.Memory.{laid}
use Rattle.slots.specs.SlotLists.{records}
use Rattle.slots.specs.Stepped.{slot_of}
use Rattle.bookings.specs.Rows.{blank_row}
use Rattle.board.specs.Keeping.{Keeping, Kept}
use Rattle.board.proofs.Keeps.{made_kept}
use Rattle.board.proofs.Made.{New, new_open, new_closed}
use Rattle.board.proofs.Outcomes.{holds}
use Rattle.board.proofs.board.Board.make.Goals as goal
use Rattle.board.proofs.board.Board.make.Goals.{in-Ok, in-Err}

pub invariant_of-result : goal.invariant_of-result
invariant_of-result g c =
    let k = g.L.Units.kind in
    let rows = length c.args.rows.now in
    let slots = length c.args.slots.now in
    let t = c.match-set_up_check.capacity in
    let new : New k c.args.capacity c.args.horizon rows slots c.set_up_check.result c.set_up_check.ensures t.0 t.1 t.2 = elim c.match-set_up_check.branch [
      | in-Ok w ↦ subst (λ q. New k c.args.capacity c.args.horizon rows slots c.set_up_check.result c.set_up_check.ensures q.0 q.1 q.2) (sym w.capacity-is) (new_open k c.args.capacity c.args.horizon rows slots c.set_up_check.result c.set_up_check.ensures w.in-Ok.is)
      | in-Err w ↦ subst (λ q. New k c.args.capacity c.args.horizon rows slots c.set_up_check.result c.set_up_check.ensures q.0 q.1 q.2) (sym w.capacity-is) (new_closed k c.args.capacity c.args.horizon rows slots c.set_up_check.result c.set_up_check.ensures _ w.in-Err.is)
    ] in
    let same : c.new.result.room ≡ t.2 = omega (arith, c.new.ensures.room, new.rows_suffice) in
    let floor = c.new-2.result.floor in
    let kept = subst (Kept k floor) new.made_is (made_kept k g.met.L.Units.keeps floor c.args.capacity c.args.horizon rows slots (c.new-2.ensures.floor ∙ c.nothing-nothing.ensures)) in
    record {
      rows_blank = c.new.ensures.blank ∙ c.blank_row.ensures ∙ ap blank_row (sym c.new-2.ensures.floor);
      slots_room = omega (arith, same, c.new-2.ensures.room, new.records_suffice);
      keeping = subst (λ (n : ℕ). Keeping k t.0 t.1 1 n floor (items c.new.result) (records c.new-2.result)) (sym same)
          (subst (λ xs. Keeping k t.0 t.1 1 t.2 floor xs (records c.new-2.result)) (sym c.new.ensures.items)
          (subst (λ ys. Keeping k t.0 t.1 1 t.2 floor [] ys) (sym c.new-2.ensures.records) kept));
    }

pub returns : goal.returns
returns g c =
    let k = g.L.Units.kind in
    let rows = length c.args.rows.now in
    let slots = length c.args.slots.now in
    let t = c.match-set_up_check.capacity in
    let new : New k c.args.capacity c.args.horizon rows slots c.set_up_check.result c.set_up_check.ensures t.0 t.1 t.2 = elim c.match-set_up_check.branch [
      | in-Ok w ↦ subst (λ q. New k c.args.capacity c.args.horizon rows slots c.set_up_check.result c.set_up_check.ensures q.0 q.1 q.2) (sym w.capacity-is) (new_open k c.args.capacity c.args.horizon rows slots c.set_up_check.result c.set_up_check.ensures w.in-Ok.is)
      | in-Err w ↦ subst (λ q. New k c.args.capacity c.args.horizon rows slots c.set_up_check.result c.set_up_check.ensures q.0 q.1 q.2) (sym w.capacity-is) (new_closed k c.args.capacity c.args.horizon rows slots c.set_up_check.result c.set_up_check.ensures _ w.in-Err.is)
    ] in
    let same : c.new.result.room ≡ t.2 = omega (arith, c.new.ensures.room, new.rows_suffice) in
    record {
      board = ap₂ (λ (n : ℕ) xs. holds t.0 t.1 n 1 xs (records c.new-2.result)) same c.new.ensures.items ∙ ap (holds t.0 t.1 t.2 1 []) c.new-2.ensures.records ∙ sym new.made_is;
      rows = c.new.ensures.memory ∙ ap (λ b. laid b c.new.result.room [] c.args.rows.now) (c.blank_row.ensures ∙ ap blank_row c.nothing-nothing.ensures);
      slots = c.new-2.ensures.slots ∙ ap (λ v. laid (slot_of 0 v) c.new-2.result.lent.room [] c.args.slots.now) c.nothing-nothing.ensures;
      lent = (c.new.ensures.lent, c.new-2.ensures.lent);
    }
