-- What a search tells of a request, in words of starts and claims. Assumes nothing.
use Rattle.std.specs.Prelude.{◌≡◌, ℕ, ◌≤◌, false, List, Some, None, Option}
use Rattle.std.proofs.Math.Bool.{So}
use Rattle.slots.specs.Lists.{In}
use Rattle.slots.specs.declared.slot.Slot.{Slot}
use Rattle.units.specs.Kinds.{Kind}
use Rattle.planning.specs.Requests.{in_window}
use Rattle.planning.specs.Search.{CanStart, feasible}
use Rattle.planning.specs.Rectangles.{rectangle, Longest}
use Rattle.planning.specs.Policies.{Preference}
use Rattle.planning.specs.declared.request.Request.{Request}
use Rattle.planning.specs.declared.rectangle.Rectangle.{Rectangle}

-- r is the rectangle of a start in the request's window from which a claim of the wanted size is clear throughout; no feasible candidate is preferred, and none that is as good is earlier
pub record RightStart {L : Type 0} (k : Kind L) (c : ℕ) (policy : Preference) (h : ℕ) (load : ℕ → L) (request : Request) (steps : List (Slot L)) (r : Rectangle) : Type 0 where
  pub inside : So (in_window request r.start)
  pub can : CanStart k c load request r.start
  pub its_own : r ≡ rectangle k c h load request r.start
  pub longest : request.deadline ≤ h → Longest k h load request r.start r
  pub unbeaten : (s : ℕ) → In s (feasible k c load request steps) → policy.prefers (rectangle k c h load request s) r ≡ false
  pub earliest : (s : ℕ) → In s (feasible k c load request steps) → policy.prefers r (rectangle k c h load request s) ≡ false → r.start ≤ s

-- none is granted only where the request can start nowhere in its window
abbrev pub Right : {L : Type 0} → Kind L → ℕ → Preference → ℕ → (ℕ → L) → Request → List (Slot L) → Option Rectangle → Type 0
Right k c policy h load request steps None = (s : ℕ) → So (in_window request s) → CanStart k c load request s → ⊥
Right k c policy h load request steps (Some r) = RightStart k c policy h load request steps r
