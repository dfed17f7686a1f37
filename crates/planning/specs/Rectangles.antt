-- The rectangle of a start: the units that are free throughout, and the longest stretch around the start in which they stay so. Assumes nothing.
use Rattle.std.specs.Prelude.{◌≡◌, ℕ, zero, suc, ◌+◌, ◌-◌, ◌<◌, ◌≤◌, true, false}
use Rattle.units.specs.Kinds.{Kind}
use Rattle.planning.specs.Search.{joined_over}
use Rattle.planning.specs.declared.request.Request.{Request}
use Rattle.planning.specs.declared.rectangle.Rectangle.{Rectangle}

-- the first of the minutes up to s from which on, up to s, each load adds nothing to `over`
abbrev pub opening_of : {L : Type 0} → Kind L → (ℕ → L) → L → ℕ → ℕ
opening_of k load over zero = 0
opening_of k load over (suc s) = elim (k.same (k.joined over (load s)) over) [ true ↦ opening_of k load over s | false ↦ suc s ]

-- the first of the n minutes from m on whose load adds something to `over`, else m + n
abbrev pub closing_of : {L : Type 0} → Kind L → (ℕ → L) → L → ℕ → ℕ → ℕ
closing_of k load over m zero = m
closing_of k load over m (suc n) = elim (k.same (k.joined over (load m)) over) [ true ↦ closing_of k load over (suc m) n | false ↦ m ]

abbrev pub rectangle : {L : Type 0} → Kind L → ℕ → ℕ → (ℕ → L) → Request → ℕ → Rectangle
rectangle k c h load request s =
    let over = joined_over k load s request.duration in
    record { start = s; units = k.free c over; opening = opening_of k load over s; closing = closing_of k load over s (h - s) }

-- from minute o up to minute e no load adds to what the request meets when it starts at s
abbrev pub AddsNothing : {L : Type 0} → Kind L → (ℕ → L) → Request → ℕ → ℕ → ℕ → Type 0
AddsNothing k load request s o e =
    let over = joined_over k load s request.duration in
    (m : ℕ) → o ≤ m → m < e → k.joined over (load m) ≡ over

-- r is the longest such stretch around s within the horizon h
pub record Longest {L : Type 0} (k : Kind L) (h : ℕ) (load : ℕ → L) (request : Request) (s : ℕ) (r : Rectangle) : Type 0 where
  pub opens : r.opening ≤ s
  pub lasts : s + request.duration ≤ r.closing
  pub closes : r.closing ≤ h
  pub covered : AddsNothing k load request s r.opening r.closing
  pub longest : (o e : ℕ) → o ≤ s → s ≤ e → e ≤ h → AddsNothing k load request s o e → (r.opening ≤ o) × (e ≤ r.closing)
