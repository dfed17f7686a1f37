use Rattle.std.proofs.Common.{◌≡◌, drop}
use Rattle.slots.specs.Stepped.{at}
use Rattle.slots.proofs.reads.value_at.Given as goal

abbrev pub invariant-loop-s : goal.invariant-loop-s
invariant-loop-s g l = at l.value (drop l.s-index l.slots) l.minute ≡ at l.initial.value l.slots l.minute
