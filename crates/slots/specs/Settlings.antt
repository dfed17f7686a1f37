-- What becomes of a record that is settled: its value is changed, if it stands in the span, and it goes if it then repeats the value before it. Assumes nothing.
use Rattle.std.specs.Prelude.{Bool, cond, Option, None, Some}
use Rattle.slots.specs.Steps.{remade}
use Rattle.slots.specs.declared.slot.Slot.{Slot}
use Rattle.slots.specs.declared.settling.Settling.{Settling}

abbrev pub made_by : {V C : Type 0} → (C → V → V) → Settling V C → Slot V → Slot V
made_by changed s x = remade (changed s.how.now) s.span.from s.span.until x

-- the record that is left, if it is
abbrev pub left_by : {V C : Type 0} → (V → V → Bool) → (C → V → V) → Settling V C → Slot V → Option (Slot V)
left_by same changed s x = let y = made_by changed s x in cond (same y.value s.before) None (Some y)

-- its value is then the one before
abbrev pub after_by : {V C : Type 0} → (C → V → V) → Settling V C → Slot V → Settling V C
after_by changed s x = record { span = s.span; how = s.how; before = (made_by changed s x).value }
