use Rattle.std.proofs.Common.{sym, ap, ◌∙◌}
use Rattle.std.proofs.lemmas.List.{nil_from_length}
use Rattle.std.proofs.lemmas.Bool.{eqb-true, eqb-false}
use Rattle.sheet.specs.Fields.{numbers_of}
use Rattle.sheet.proofs.FirstFields.{some_number}
use Rattle.sheet.proofs.Filling.{none_filled, one_filled, too_few, all_filled, too_many}
use Rattle.sheet.proofs.field.numbers.Goals as goal

pub loop-place-init : goal.loop-place-init
loop-place-init g c = none_filled g.row.N (numbers_of c.args.fields.now)

pub returns-in_err-first : goal.returns-in_err-first
returns-in_err-first g c = c.from_residual.ensures ∙ too_few c.loop-place.invariant c.loop-place-test.true c.in_err-first.ensures

pub loop-place-preserved : goal.loop-place-preserved
loop-place-preserved g c = one_filled c.loop-place.invariant c.in_ok-first.first _ c.loop-place-test.true c.in_ok-first.ensures

pub returns-then-is_empty : goal.returns-then-is_empty
returns-then-is_empty g c = all_filled c.loop-place.invariant c.loop-place-test.false (ap numbers_of (nil_from_length c.loop-place.rest.now (eqb-true _ _ (sym c.if-is_empty.ensures))))

pub returns-else-is_empty : goal.returns-else-is_empty
returns-else-is_empty g c = too_many c.loop-place.invariant c.loop-place-test.false (some_number c.loop-place.rest.now (eqb-false _ _ (sym c.if-is_empty.ensures)))
