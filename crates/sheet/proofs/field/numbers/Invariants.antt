use Rattle.sheet.specs.Fields.{numbers_of}
use Rattle.sheet.proofs.Filling.{Filled}
use Rattle.sheet.proofs.field.numbers.Given as goal

abbrev pub invariant-loop-place : goal.invariant-loop-place
invariant-loop-place g l = Filled g.row.N (numbers_of l.fields) l.place-items l.place-index (numbers_of l.rest)
