use Rattle.std.proofs.Common.{sym, ◌∙◌, arith}
use Rattle.sheet.proofs.Digits.{digits_go, digits_stop, digits_end}
use Rattle.sheet.proofs.field.digits.Goals as goal

pub returns-in_err-number : goal.returns-in_err-number
returns-in_err-number c = c.from_residual.ensures ∙ digits_stop c.loop-byte.number c.args.field.now c.loop-byte.byte-index _ c.loop-byte-test.true c.in_err-number.ensures c.loop-byte.invariant.1

pub loop-byte-preserved : goal.loop-byte-preserved
loop-byte-preserved c = digits_go c.loop-byte.number c.in_ok-number.number c.args.field.now c.loop-byte.byte-index _ c.loop-byte-test.true c.in_ok-number.ensures c.loop-byte.invariant.1

pub returns : goal.returns
returns c = sym (digits_end c.loop-byte.number c.args.field.now c.loop-byte.byte-index (omega arith) c.loop-byte.invariant.0) ∙ c.loop-byte.invariant.1
