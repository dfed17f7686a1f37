-- The starts that a request may have beside what is booked. Assumes nothing.
use Rattle.std.specs.Prelude.{◌≡◌, ℕ, zero, suc, ◌+◌, ◌-◌, ◌<◌, ◌≤◌, List, ◌∷◌, ◌++◌, map, filter}
use Rattle.std.proofs.Math.Bool.{So}
use Rattle.slots.specs.Stepped.{minutes}
use Rattle.slots.specs.declared.slot.Slot.{Slot}
use Rattle.units.specs.Kinds.{Kind}
use Rattle.planning.specs.Requests.{latest, in_window, enough}
use Rattle.planning.specs.declared.request.Request.{Request}

-- a claim fits from minute s for d minutes when it is clear of the load at each of them
abbrev pub Fits : {L : Type 0} → Kind L → ℕ → (ℕ → L) → L → ℕ → ℕ → Type 0
Fits k c load p s d = (m : ℕ) → s ≤ m → m < s + d → So (k.clear c p (load m))

-- some claim of the wanted size fits from s
abbrev pub CanStart : {L : Type 0} → Kind L → ℕ → (ℕ → L) → Request → ℕ → Type 0
CanStart {L} k c load request s = (p : L) × (k.size p ≡ request.wanted) × Fits k c load p s request.duration

-- the joined loads of the d minutes from s on
abbrev pub joined_over : {L : Type 0} → Kind L → (ℕ → L) → ℕ → ℕ → L
joined_over k load s zero = k.nothing
joined_over k load s (suc d) = k.joined (load s) (joined_over k load (suc s) d)

-- the units that are free throughout, were the request to start at s
abbrev pub free_from : {L : Type 0} → Kind L → ℕ → (ℕ → L) → Request → ℕ → ℕ
free_from k c load request s = k.free c (joined_over k load s request.duration)

-- the starts worth trying: both ends of the window, and where the request would begin or end at a record's minute
abbrev pub candidates : {L : Type 0} → Request → List (Slot L) → List ℕ
candidates request steps = filter (in_window request) (request.ready ∷ latest request ∷ (minutes steps ++ map (λ m. m - request.duration) (minutes steps)))

-- the candidates at which the wanted units are free throughout
abbrev pub feasible : {L : Type 0} → Kind L → ℕ → (ℕ → L) → Request → List (Slot L) → List ℕ
feasible k c load request steps = filter (λ s. enough request.wanted (free_from k c load request s)) (candidates request steps)
