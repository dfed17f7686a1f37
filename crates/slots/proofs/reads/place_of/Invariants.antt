use Rattle.std.proofs.Common.{◌≡◌, ◌+◌, drop}
use Rattle.slots.specs.Steps.{place}
use Rattle.slots.proofs.reads.place_of.Given as goal

abbrev pub invariant-loop-i : goal.invariant-loop-i
invariant-loop-i g l = l.i + place l.minute (drop l.i l.slots) ≡ place l.minute l.slots
