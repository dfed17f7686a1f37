-- The text of the answers: words and decimal numbers, split by one space, in lines that byte 10 ends. Assumes nothing.
use Rattle.std.specs.Prelude.{ℕ, List, [], ◌∷◌, ◌++◌, length, codes, decimal}
use Rattle.std.specs.List.{flat_map}
use Rattle.sheet.specs.Fields.{spaced}
use Rattle.slots.specs.declared.slot.Slot.{Slot}
use Rattle.units.specs.declared.crew.Crew.{Crew}
use Rattle.sheet.specs.declared.answer.Answer.{Answer}
use Rattle.sheet.specs.declared.answer.Answer.TheVariants.{Granted, Late, Done, Refused, Listed, Silent}

-- a line that begins with the bytes given and goes on with numbers
abbrev pub line_text : List ℕ → List ℕ → List ℕ
line_text front ns = front ++ spaced (10 ∷ []) ns

-- a record: its minute and its load
abbrev pub slot_text : Slot Crew → List ℕ
slot_text x = line_text (decimal x.minute) (x.value.mask ∷ [])

abbrev pub list_text : List (Slot Crew) → List ℕ
list_text xs = line_text (codes "list") (length xs ∷ []) ++ flat_map slot_text xs

-- the text of an answer, where the slot list is the one given
abbrev pub text_of : List (Slot Crew) → Answer → List ℕ
text_of slots (Granted number start claim) = line_text (codes "ok") (number ∷ start ∷ claim ∷ [])
text_of slots (Late number start) = line_text (codes "late") (number ∷ start ∷ [])
text_of slots Done = line_text (codes "ok") []
text_of slots (Refused number) = line_text (codes "no") (number ∷ [])
text_of slots Listed = list_text slots
text_of slots Silent = []
