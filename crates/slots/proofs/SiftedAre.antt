-- Records that are settled one after the other. Assumes nothing.
use Rattle.std.proofs.Common.{◌≡◌, Bool, true, false, cond, List, [], ◌∷◌, map, None, Some, refl, ap, ◌∙◌}
use Rattle.lent.specs.Sifting.{led_by, sifted}
use Rattle.slots.specs.Steps.{settled}
use Rattle.slots.specs.Settlings.{made_by, left_by, after_by}
use Rattle.slots.specs.declared.slot.Slot.{Slot}
use Rattle.slots.specs.declared.settling.Settling.{Settling}

module _ {V C : Type 0} (same : V → V → Bool) (changed : C → V → V) where
  led : (b : Bool) (y : Slot V) (rest : List (Slot V)) → led_by (cond b None (Some y)) rest ≡ cond b rest (y ∷ rest)
  led true y rest = refl
  led false y rest = refl

  pub sifted_settled : (s : Settling V C) (xs : List (Slot V)) → sifted (left_by same changed) (after_by changed) s xs ≡ settled same s.before (map (made_by changed s) xs)
  sifted_settled s [] = refl
  sifted_settled s (x ∷ xs) =
      let y = made_by changed s x in
      led (same y.value s.before) y (sifted (left_by same changed) (after_by changed) (after_by changed s x) xs)
      ∙ ap (λ rest. cond (same y.value s.before) rest (y ∷ rest)) (sifted_settled (after_by changed s x) xs)
