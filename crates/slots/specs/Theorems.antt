-- What is shown of stepped lists. Assumes nothing.
use Rattle.std.specs.Prelude.{◌≡◌, ℕ, ◌+◌, ◌<◌, ◌≤◌, Bool, cond, List, length, Decides}
use Rattle.slots.specs.Lists.{In}
use Rattle.slots.specs.Stepped.{at, minutes, Ascending, Canonical, within, edited}
use Rattle.slots.specs.Steps.{lacks}
use Rattle.slots.specs.declared.slot.Slot.{Slot}

-- A canonical list is the only one that says its values.
abbrev pub SlotsUnique : Type 0 → Type 0
SlotsUnique V = (floor : V) (low : ℕ) (xs ys : List (Slot V)) → Canonical low floor xs → Canonical low floor ys → ((m : ℕ) → at floor xs m ≡ at floor ys m) → xs ≡ ys

-- A change over a span leaves a canonical list, that says the changed value at each minute of the span, and what stood before at any other.
abbrev pub EditedRight : Type 0 → Type 0
EditedRight V = (same : V → V → Bool) → ((a b : V) → Decides (same a b) (a ≡ b)) → (f : V → V) (from until : ℕ) (floor : V) (xs : List (Slot V)) → Canonical 0 floor (edited same f from until floor xs) × ((m : ℕ) → at floor (edited same f from until floor xs) m ≡ cond (within from until m) (f (at floor xs m)) (at floor xs m))

-- Where each record's minute is one of n, and so are the ends of the span, n records are room enough.
abbrev pub RoomEnough : Type 0 → Type 0
RoomEnough V = (from until : ℕ) (xs : List (Slot V)) (ends : List ℕ) → from < until → Ascending 0 xs → ((n : ℕ) → In n (minutes xs) → In n ends) → In from ends → In until ends → length xs + (lacks from xs + lacks until xs) ≤ length ends
