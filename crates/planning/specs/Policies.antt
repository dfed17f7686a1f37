-- A policy ranks rectangles, and the start whose rectangle ranks best is granted. Assumes nothing.
use Rattle.std.specs.Prelude.{◌≡◌, ℕ, ◌≤◌, Bool, false, cond, not, ◌&&◌, ◌||◌, List, [], ◌∷◌, map, Some, None, Option, nat_lt}
use Rattle.std.proofs.Math.Bool.{So}
use Rattle.slots.specs.Lists.{In}
use Rattle.slots.specs.declared.slot.Slot.{Slot}
use Rattle.units.specs.Kinds.{Kind}
use Rattle.planning.specs.Search.{joined_over, feasible}
use Rattle.planning.specs.Rectangles.{rectangle}
use Rattle.planning.specs.declared.request.Request.{Request}
use Rattle.planning.specs.declared.rectangle.Rectangle.{Rectangle}
use Rattle.planning.specs.declared.found.Found.{Found}

-- Which of two rectangles is preferred: none to itself; and being preferred passes from first to second to third, as not being preferred does.
pub record Preference : Type 0 where
  pub prefers : Rectangle → Rectangle → Bool
  pub not_itself : (r : Rectangle) → prefers r r ≡ false
  pub onward : (q r t : Rectangle) → So (prefers q r) → So (prefers r t) → So (prefers q t)
  pub not_onward : (q r t : Rectangle) → prefers q r ≡ false → prefers r t ≡ false → prefers q t ≡ false

-- none of rs is preferred to r, which is one of them, and none that is as good starts earlier
pub record Unbettered (policy : Preference) (rs : List Rectangle) (r : Rectangle) : Type 0 where
  pub among : In r rs
  pub unbeaten : (q : Rectangle) → In q rs → policy.prefers q r ≡ false
  pub earliest : (q : Rectangle) → In q rs → policy.prefers r q ≡ false → r.start ≤ q.start

-- q is granted before r: it is preferred, or no less preferred and earlier
abbrev pub before : Preference → Rectangle → Rectangle → Bool
before policy q r = policy.prefers q r || (not (policy.prefers r q) && nat_lt q.start r.start)

abbrev pub best : Preference → Rectangle → List Rectangle → Rectangle
best policy r [] = r
best policy r (q ∷ qs) = best policy (cond (before policy q r) q r) qs

abbrev pub first_of : Preference → List Rectangle → Option Rectangle
first_of policy [] = None
first_of policy (r ∷ rs) = Some (best policy r rs)

-- the rectangle of the start that is granted to the request, if any
abbrev pub granted : {L : Type 0} → Kind L → ℕ → Preference → ℕ → (ℕ → L) → Request → List (Slot L) → Option Rectangle
granted k c policy h load request steps = first_of policy (map (rectangle k c h load request) (feasible k c load request steps))

-- a rectangle, with the claim that the kind picks for a request that starts there
abbrev pub claimed : {L : Type 0} → Kind L → ℕ → (ℕ → L) → Request → Option Rectangle → Option (Found L)
claimed k c load request None = None
claimed k c load request (Some r) = elim (k.pick c request.wanted (joined_over k load r.start request.duration)) [ None ↦ None | Some p ↦ Some (record { rectangle = r; claim = p }) ]

-- what is found for the request: the rectangle that is granted, and the claim
abbrev pub found : {L : Type 0} → Kind L → ℕ → Preference → ℕ → (ℕ → L) → Request → List (Slot L) → Option (Found L)
found k c policy h load request steps = claimed k c load request (granted k c policy h load request steps)
