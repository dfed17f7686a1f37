use Rattle.std.proofs.Common.{◌≡◌, ℕ, ◌+◌, ◌<◌, ◌≤◌, length, get_or, sym, arith}
use Rattle.std.proofs.lemmas.Grind.{common_steps}
use Rattle.slots.specs.declared.slot.Slot.{Slot}
use Rattle.planning.proofs.Splits.{upto_all}
use Rattle.planning.proofs.walk.count_upto.Goals as goal

pub returns-clause-which : goal.returns-clause-which
returns-clause-which g c asc =
    let xs = c.args.slots.now in
    let n = c.map_or.result in
    let s = c.args.minute in
    let within : n ≤ length xs = grind (arith, common_steps) in
    let upto : (i : ℕ) (d : Slot _) → n ≡ i + 1 → (get_or xs i d).minute ≤ s = grind (arith, common_steps) in
    let later : (j : ℕ) (d : Slot _) → n ≤ j → j < length xs → s < (get_or xs j d).minute = grind (arith, common_steps) in
    sym (upto_all s n xs asc within upto later)
