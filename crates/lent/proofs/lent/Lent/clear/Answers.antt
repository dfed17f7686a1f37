use Rattle.std.proofs.Common.{◌≡◌, ℕ, ◌-◌, [], replicate, refl, ap, ◌∙◌, arith}
use Rattle.lent.proofs.Refills.{items_length, refilled, laid_anew}
use Rattle.lent.proofs.lent.Lent.clear.Goals as goal

pub invariant_of-self : goal.invariant_of-self
invariant_of-self g c =
    let was = c.args.self.now in
    let all : was.used ≡ was.used - 0 = omega arith in
    record { laid_out = laid_anew was was.used [] _ (omega arith) was.laid_out.used_fits (omega arith) (c.fill.ensures ∙ ap (λ (k : ℕ). replicate k was.blank) (items_length was ∙ all)) }

pub returns : goal.returns
returns g c =
    let was = c.args.self.now in
    let all : was.used ≡ was.used - 0 = omega arith in
    record {
      used_is = refl;
      room_is = refl;
      blank_is = refl;
      memory_is = refilled was was.used [] _ (omega arith) was.laid_out.used_fits (omega arith) (c.fill.ensures ∙ ap (λ (k : ℕ). replicate k was.blank) (items_length was ∙ all));
      lent_is = refl;
    }
