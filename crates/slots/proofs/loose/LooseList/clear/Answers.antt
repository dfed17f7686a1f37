use Rattle.std.proofs.Common.{◌≡◌, ℕ, [], length, refl, ap, ap₂, ◌∙◌, arith}
use Rattle.lent.specs.Memory.{laid}
use Rattle.slots.specs.Stepped.{slot_of}
use Rattle.slots.proofs.loose.LooseList.clear.Goals as goal

pub returns-then-self-clause-list : goal.returns-then-self-clause-list
returns-then-self-clause-list g c =
    let was = c.args.self.now in
    let e = ap (λ s. s.now) c.take-slots.ensures.value in
    let room : c.new.result.room ≡ was.room = omega (arith, c.new.ensures.room, ap length e, c.if-self.true) in
    λ t.
    record {
      used_is = refl;
      room_is = refl;
      floor_is = refl;
      memory_is = c.close-self.ensures.memory ∙ c.new.ensures.memory ∙ ap₂ (λ (n : ℕ) ys. laid (slot_of 0 was.floor) n [] ys) room e;
    }
