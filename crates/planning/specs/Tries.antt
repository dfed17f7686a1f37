-- One start at a time: what is found there, and the better of two finds. Assumes nothing.
use Rattle.std.specs.Prelude.{◌≡◌, ℕ, ◌<◌, ◌≤◌, false, cond, ◌&&◌, List, [], ◌∷◌, Some, None, Option}
use Rattle.units.specs.Kinds.{Kind}
use Rattle.planning.specs.Requests.{in_window, enough}
use Rattle.planning.specs.Search.{joined_over, free_from}
use Rattle.planning.specs.Searches.{loads, rectangle_in}
use Rattle.planning.specs.Policies.{Preference, before}
use Rattle.planning.specs.declared.find.Search.{Search}
use Rattle.planning.specs.declared.rectangle.Rectangle.{Rectangle}
use Rattle.planning.specs.declared.find.Hit.{Hit}

-- the rectangle of s, if the request can start there
abbrev pub found_at : {L : Type 0} → Kind L → Search L → ℕ → Option Rectangle
found_at k search s = cond (in_window search.request s && enough search.request.wanted (free_from k search.capacity (loads k search) search.request s)) (Some (rectangle_in k search s)) None

abbrev pub rectangle_of : {L : Type 0} → Option (Hit L) → Option Rectangle
rectangle_of None = None
rectangle_of (Some hit) = Some hit.rectangle

-- a hit is the rectangle of its start, with what the request meets there
abbrev pub IsHit : {L : Type 0} → Kind L → Search L → Option (Hit L) → Type 0
IsHit k search None = Unit {0}
IsHit k search (Some hit) =
    let s = hit.rectangle.start in
    (hit.rectangle ≡ rectangle_in k search s) × (hit.over ≡ joined_over k (loads k search) s search.request.duration)

-- the request meets at s what it meets at the hit, and s lies in the hit's stretch, which is within the horizon h
pub record GoesOn {L : Type 0} (hit : Hit L) (over : L) (s h : ℕ) : Type 0 where
  pub met : hit.over ≡ over
  pub opened : hit.rectangle.opening ≤ s
  pub not_closed : s < hit.rectangle.closing
  pub inside : hit.rectangle.closing ≤ h

-- the first unless the second goes before it
abbrev pub better_of : Preference → Option Rectangle → Option Rectangle → Option Rectangle
better_of policy best None = best
better_of policy None (Some q) = Some q
better_of policy (Some r) (Some q) = Some (cond (before policy q r) q r)

-- the best so far, once these starts are tried in turn
abbrev pub trying : {L : Type 0} → Kind L → Preference → Search L → Option Rectangle → List ℕ → Option Rectangle
trying k policy search best [] = best
trying k policy search best (s ∷ ss) = trying k policy search (better_of policy best (found_at k search s)) ss

-- a policy by which no rectangle is preferred to one that starts as early
abbrev pub EarlierFirst : Preference → Type 0
EarlierFirst policy = (q r : Rectangle) → r.start ≤ q.start → policy.prefers q r ≡ false
