use Rattle.std.proofs.Common.{set, sym, refl, ◌∙◌, arith}
use Rattle.std.proofs.lemmas.List.{set_past}
use Rattle.lent.specs.Lists.{items}
use Rattle.lent.proofs.Refills.{items_length, refilled, laid_with, as_it_was, replaced, set_length, no_blanks}
use Rattle.lent.proofs.lent.Lent.replace.Goals as goal

pub invariant_of-self : goal.invariant_of-self
invariant_of-self g c =
    let was = c.args.self.now in
    let i = c.args.i in
    let x = c.args.x in
    let xs = set (items was) i x in
    record { laid_out = rw (replaced was i x c.if-i-self.true) (laid_with was was.used xs xs (omega arith) was.laid_out.used_fits (omega (arith, set_length was i x)) (no_blanks was.used xs was.blank (sym (set_length was i x))) was.used (sym (set_length was i x))) }

pub returns-then-i-self : goal.returns-then-i-self
returns-then-i-self g c =
    let was = c.args.self.now in
    let i = c.args.i in
    let x = c.args.x in
    let xs = set (items was) i x in
    record {
      used_is = sym (set_length was i x);
      room_is = refl;
      blank_is = refl;
      memory_is = replaced was i x c.if-i-self.true ∙ refilled was was.used xs xs (omega arith) was.laid_out.used_fits (omega (arith, set_length was i x)) (no_blanks was.used xs was.blank (sym (set_length was i x)));
      lent_is = refl;
    }

pub returns-else-i-self : goal.returns-else-i-self
returns-else-i-self g c =
    let was = c.args.self.now in
    as_it_was was _ (set_past (items was) c.args.i c.args.x (omega (arith, items_length was, c.if-i-self.false)))
