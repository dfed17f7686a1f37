-- Where the row with a number stands. Assumes nothing.
use Rattle.std.specs.Prelude.{◌≡◌, ℕ, ◌+◌, ◌<◌, List, ◌++◌, length, take, drop, Some, None, Option, slice_index_or}
use Rattle.bookings.specs.Rows.{numbered, replaced}
use Rattle.bookings.specs.declared.row.Row.{Row}

-- at i: it is the row of that number, and to replace that row is to replace the one at i
abbrev pub Placed : {L : Type 0} → ℕ → List (Row L) → Option ℕ → Type 0
Placed {L} n rows (Some i) = (i < length rows) × ((d : Row L) → numbered n rows ≡ Some (slice_index_or rows i d)) × ((these : List (Row L)) → replaced n these rows ≡ take i rows ++ (these ++ drop (i + 1) rows))
Placed n rows None = numbered n rows ≡ None
