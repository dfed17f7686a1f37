-- What a search looks through and what it finds, of the search as the code holds it. Assumes nothing.
use Rattle.std.specs.Prelude.{ℕ, Option}
use Rattle.units.specs.Kinds.{Kind}
use Rattle.slots.specs.Stepped.{at}
use Rattle.planning.specs.Rectangles.{rectangle}
use Rattle.planning.specs.Policies.{Preference, granted, found}
use Rattle.planning.specs.Right.{Right}
use Rattle.planning.specs.declared.find.Search.{Search}
use Rattle.planning.specs.declared.found.Found.{Found}
use Rattle.planning.specs.declared.rectangle.Rectangle.{Rectangle}

-- the load of each minute
abbrev pub loads : {L : Type 0} → Kind L → Search L → ℕ → L
loads k search = at k.nothing search.slots.now

-- the rectangle of the start s
abbrev pub rectangle_in : {L : Type 0} → Kind L → Search L → ℕ → Rectangle
rectangle_in k search = rectangle k search.capacity search.horizon (loads k search) search.request

-- the rectangle of the start that is granted, if any
abbrev pub granted_in : {L : Type 0} → Kind L → Preference → Search L → Option Rectangle
granted_in k policy search = granted k search.capacity policy search.horizon (loads k search) search.request search.slots.now

-- that rectangle, and the claim
abbrev pub found_in : {L : Type 0} → Kind L → Preference → Search L → Option (Found L)
found_in k policy search = found k search.capacity policy search.horizon (loads k search) search.request search.slots.now

-- the rectangle is right, or it is right that there is none
abbrev pub RightIn : {L : Type 0} → Kind L → Preference → Search L → Option Rectangle → Type 0
RightIn k policy search = Right k search.capacity policy search.horizon (loads k search) search.request search.slots.now
