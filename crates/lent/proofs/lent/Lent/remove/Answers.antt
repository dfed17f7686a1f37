use Rattle.std.proofs.Common.{◌-◌, ◌<◌, ◌≤◌, List, length, slice_index_or, sym, refl, ap, ◌∙◌, arith}
use Rattle.std.proofs.lemmas.Bool.{ltb-true, ltb-false}
use Rattle.std.proofs.lemmas.List.Edits.{length-remove}
use Rattle.std.proofs.lemmas.Option.{slice_get_read}
use Rattle.std.specs.List.{remove}
use Rattle.lent.specs.Lists.{items}
use Rattle.lent.proofs.Refills.{items_length, refilled, laid_with, as_it_was, removed, remove_past}
use Rattle.lent.proofs.lent.Lent.remove.Goals as goal

pub returns-in_err-item-clause-list : goal.returns-in_err-item-clause-list
returns-in_err-item-clause-list g c =
    let was = c.args.self.now in
    let past : length (items was) ≤ c.args.i = omega (arith, ltb-false _ _ (sym c.in_err-item.ensures.lookup.0), ap length c.items.ensures) in
    as_it_was was _ (remove_past (items was) c.args.i past)

pub invariant_of-self : goal.invariant_of-self
invariant_of-self g c =
    let was = c.args.self.now in
    let i = c.args.i in
    let there : i < length (items was) = omega (arith, ltb-true _ _ (sym c.in_ok-item.ensures.lookup.0), ap length c.items.ensures) in
    let shorter = length-remove (items was) i there in
    record { laid_out = laid_with was was.used (remove (items was) i) _ (omega arith) was.laid_out.used_fits (omega (arith, shorter, items_length was)) (removed was i _ (omega (arith, there, items_length was)) c.close_at.ensures) (was.used - 1) (omega (arith, shorter, items_length was)) }

pub returns-clause-answer : goal.returns-clause-answer
returns-clause-answer g c =
    let was = c.args.self.now in
    let there : c.args.i < length (items was) = omega (arith, ltb-true _ _ (sym c.in_ok-item.ensures.lookup.0), ap length c.items.ensures) in
    sym (slice_get_read (items was) (length (items was)) c.args.i _ refl there (c.in_ok-item.ensures.lookup.1 ∙ ap (λ (zs : List g.row.T.Denot). slice_index_or zs c.args.i c.in_ok-item.field-0.now) c.items.ensures))

pub returns-clause-list : goal.returns-clause-list
returns-clause-list g c =
    let was = c.args.self.now in
    let i = c.args.i in
    let there : i < length (items was) = omega (arith, ltb-true _ _ (sym c.in_ok-item.ensures.lookup.0), ap length c.items.ensures) in
    let shorter = length-remove (items was) i there in
    record {
      used_is = omega (arith, shorter, items_length was);
      room_is = refl;
      blank_is = refl;
      memory_is = refilled was was.used (remove (items was) i) _ (omega arith) was.laid_out.used_fits (omega (arith, shorter, items_length was)) (removed was i _ (omega (arith, there, items_length was)) c.close_at.ensures);
      lent_is = refl;
    }
