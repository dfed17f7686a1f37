use Rattle.std.proofs.Common.{◌≡◌, ◌<◌, length, get_or, inl, rules}
use Rattle.std.proofs.lemmas.List.{take_rest}
use Rattle.sheet.proofs.FirstFields.{numbers_cut}
use Rattle.sheet.proofs.field.first_number.Goals as goal

pub returns-in_err-number : goal.returns-in_err-number
returns-in_err-number c =
    let some : 0 < length c.args.fields.now = search rules in
    let space : get_or c.args.fields.now 0 0 ≡ 32 = search rules in
    rw c.from_residual.ensures (inl (numbers_cut c.args.fields.now _ _ _ c.length_before.result _ some space (take_rest c.args.fields.now 1) c.length_before.ensures.value c.split_at.ensures.front c.split_at.ensures.back c.in_err-number.ensures))

pub returns : goal.returns
returns c =
    let some : 0 < length c.args.fields.now = search rules in
    let space : get_or c.args.fields.now 0 0 ≡ 32 = search rules in
    numbers_cut c.args.fields.now _ _ _ c.length_before.result _ some space (take_rest c.args.fields.now 1) c.length_before.ensures.value c.split_at.ensures.front c.split_at.ensures.back c.in_ok-number.ensures
