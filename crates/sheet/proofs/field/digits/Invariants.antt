use Rattle.std.proofs.Common.{◌≡◌, ◌≤◌, drop}
use Rattle.sheet.specs.FieldSteps.{digits_after}
use Rattle.sheet.proofs.field.digits.Given as goal

abbrev pub invariant-loop-byte : goal.invariant-loop-byte
invariant-loop-byte l = (l.number ≤ 4294967295) × (digits_after l.number (drop l.byte-index l.field) ≡ digits_after 0 l.field)
