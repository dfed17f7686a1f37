use Rattle.std.proofs.Common.{◌-◌, ◌<◌, length, sym, ap, ◌∙◌, arith}
use Rattle.std.proofs.lemmas.List.{take_all}
use Rattle.std.proofs.lemmas.Option.{slice_get_within, get_or_from_slice_get}
use Rattle.slots.specs.Steps.{last_of}
use Rattle.slots.proofs.Onward.{last_read}
use Rattle.slots.proofs.reads.value_after.Goals as goal

pub returns-in-Some : goal.returns-in-Some
returns-in-Some g c =
    let xs = c.args.slots.now in
    let s = c.in-Some.s.now in
    let e = c.in-Some.ensures.value in
    let there : length xs - 1 < length xs = slice_get_within xs (length xs - 1) s (sym e) in
    ap (λ t. t.value) (sym (get_or_from_slice_get xs (length xs - 1) s s (sym e))) ∙ last_read c.args.floor xs (length xs) s (omega (arith, there)) (omega arith) ∙ ap (last_of c.args.floor) (take_all (length xs) xs (omega arith))
