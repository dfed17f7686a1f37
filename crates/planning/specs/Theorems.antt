-- The theorems of the search, each over the loads L of a kind with c units. Assumes nothing.
use Rattle.std.specs.Prelude.{◌≡◌, ℕ, ◌+◌, ◌≤◌, ◌↔◌, List, map, Some, filter, Option}
use Rattle.std.proofs.Math.Bool.{So}
use Rattle.slots.specs.Lists.{In}
use Rattle.slots.specs.Stepped.{at}
use Rattle.slots.specs.declared.slot.Slot.{Slot}
use Rattle.units.specs.Kinds.{Kind, Laws}
use Rattle.planning.specs.Requests.{in_window, enough}
use Rattle.planning.specs.Search.{Fits, CanStart, joined_over, free_from, feasible}
use Rattle.planning.specs.Rectangles.{rectangle, Longest}
use Rattle.planning.specs.Policies.{Preference, Unbettered, first_of}
use Rattle.planning.specs.declared.request.Request.{Request}
use Rattle.planning.specs.declared.rectangle.Rectangle.{Rectangle}

-- A load that covers more leaves no more free.
abbrev pub FreeFalls : Type 0 → Type 0
FreeFalls L = (k : Kind L) (c : ℕ) → Laws k c → (a b : L) → k.free c (k.joined a b) ≤ k.free c a

-- A claim of n units clear of a load exists exactly when n units are free.
abbrev pub ClaimExists : Type 0 → Type 0
ClaimExists L = (k : Kind L) (c : ℕ) → Laws k c → (n : ℕ) (l : L) → 1 ≤ n → ((p : L) × (k.size p ≡ n) × So (k.clear c p l)) ↔ (n ≤ k.free c l)

-- A claim fits throughout a stretch exactly when it is clear of the joined loads.
abbrev pub FitsIsClear : Type 0 → Type 0
FitsIsClear L = (k : Kind L) (c : ℕ) → Laws k c → (load : ℕ → L) (p : L) (s d : ℕ) → 1 ≤ d → Fits k c load p s d ↔ So (k.clear c p (joined_over k load s d))

-- A request can start at s exactly when the units that it wants are free throughout.
abbrev pub Startable : Type 0 → Type 0
Startable L = (k : Kind L) (c : ℕ) → Laws k c → (load : ℕ → L) (request : Request) (s : ℕ) → 1 ≤ request.wanted → 1 ≤ request.duration → CanStart k c load request s ↔ (request.wanted ≤ free_from k c load request s)

-- The search misses nothing: where a request can start in its window, some candidate is feasible.
abbrev pub SearchComplete : Type 0 → Type 0
SearchComplete L = (k : Kind L) (c : ℕ) → Laws k c → (load : ℕ → L) (steps : List (Slot L)) (request : Request) → ((m : ℕ) → at k.nothing steps m ≡ load m) → 1 ≤ request.wanted → 1 ≤ request.duration → (s : ℕ) → So (in_window request s) → CanStart k c load request s → (t : ℕ) × In t (feasible k c load request steps)

-- Each feasible candidate lies in the window, and the request can start there.
abbrev pub SearchSound : Type 0 → Type 0
SearchSound L = (k : Kind L) (c : ℕ) → Laws k c → (load : ℕ → L) (steps : List (Slot L)) (request : Request) → 1 ≤ request.wanted → 1 ≤ request.duration → (t : ℕ) → In t (feasible k c load request steps) → So (in_window request t) × CanStart k c load request t

-- The rectangle of a start is the longest stretch around it, within the horizon, in which no load adds to what the request meets.
abbrev pub RectangleLongest : Type 0 → Type 0
RectangleLongest L = (k : Kind L) (c : ℕ) → Laws k c → (h : ℕ) (load : ℕ → L) (request : Request) (s : ℕ) → s + request.duration ≤ h → Longest k h load request s (rectangle k c h load request s)

-- No rectangle is preferred to the one that is chosen, and among its equals it is the earliest.
abbrev pub ChoiceBest : Type 0
ChoiceBest = (policy : Preference) (rs : List Rectangle) (r : Rectangle) → first_of policy rs ≡ Some r → Unbettered policy rs r

-- That says which start is chosen: any other that is so is the same.
abbrev pub ChoiceOnly : Type 0
ChoiceOnly = (policy : Preference) (rs : List Rectangle) (q r : Rectangle) → Unbettered policy rs q → Unbettered policy rs r → q.start ≡ r.start

-- what is granted when these starts are tried
abbrev pub tried : {L : Type 0} → Kind L → ℕ → Preference → ℕ → (ℕ → L) → Request → List ℕ → Option Rectangle
tried k c policy h load request ss = first_of policy (map (rectangle k c h load request) (filter (λ s. enough request.wanted (free_from k c load request s)) (filter (in_window request) ss)))

-- The starts may be tried in any order, and more than once: only which of them lie in the window counts.
abbrev pub AnyOrder : Type 0 → Type 0
AnyOrder L = (k : Kind L) (c : ℕ) (policy : Preference) (h : ℕ) (load : ℕ → L) (request : Request) (xs ys : List ℕ) → ((s : ℕ) → So (in_window request s) → In s xs → In s ys) → ((s : ℕ) → So (in_window request s) → In s ys → In s xs) → tried k c policy h load request xs ≡ tried k c policy h load request ys
