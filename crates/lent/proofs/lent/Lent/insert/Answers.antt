use Rattle.std.proofs.Common.{◌+◌, ◌<◌, refl, arith}
use Rattle.std.specs.List.{insert}
use Rattle.lent.specs.Lists.{items}
use Rattle.lent.proofs.Refills.{items_length, refilled, laid_with, length_inserted, inserted}
use Rattle.lent.proofs.lent.Lent.insert.Goals as goal

pub invariant_of-self : goal.invariant_of-self
invariant_of-self g c =
    let was = c.args.self.now in
    let spare : was.used < was.room = omega (arith, was.laid_out.used_fits, c.if-used-self.false) in
    let xs = insert (items was) c.args.i c.args.x in
    record { laid_out = laid_with was (was.used + 1) xs _ (omega arith) (omega arith) (omega (arith, length_inserted (items was) c.args.i c.args.x, items_length was)) (inserted was c.args.i c.args.x _ c.min.result spare c.min.ensures c.open_at.ensures) (was.used + 1) (omega (arith, length_inserted (items was) c.args.i c.args.x, items_length was)) }

pub returns-clause-list : goal.returns-clause-list
returns-clause-list g c =
    let was = c.args.self.now in
    let spare : was.used < was.room = omega (arith, was.laid_out.used_fits, c.if-used-self.false) in
    let xs = insert (items was) c.args.i c.args.x in
    record {
      used_is = omega (arith, length_inserted (items was) c.args.i c.args.x, items_length was);
      room_is = refl;
      blank_is = refl;
      memory_is = refilled was (was.used + 1) xs _ (omega arith) (omega arith) (omega (arith, length_inserted (items was) c.args.i c.args.x, items_length was)) (inserted was c.args.i c.args.x _ c.min.result spare c.min.ensures c.open_at.ensures);
      lent_is = refl;
    }
