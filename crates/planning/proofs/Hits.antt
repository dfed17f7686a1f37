-- What is found at a start. The stretch of a hit is that of each start in it that meets as much. Assumes nothing.
use Rattle.std.proofs.Common.{◌≡◌, ℕ, ◌+◌, ◌-◌, ◌<◌, ◌≤◌, true, Some, None, Option, sym, refl, ap, ◌∙◌, subst, inl, inr, arith}
use mathlib.Core.Bool.{So}
use Rattle.std.specs.Option.{option_or}
use Rattle.std.proofs.lemmas.Bool.{cases_lt, le-leb, and_from, cond-true}
use Rattle.units.specs.Kinds.{Kind, Laws}
use Rattle.planning.specs.Rectangles.{opening_of, closing_of}
use Rattle.planning.specs.Requests.{in_window, enough}
use Rattle.planning.specs.Search.{joined_over, free_from}
use Rattle.planning.specs.Searches.{loads, rectangle_in}
use Rattle.planning.specs.Tries.{found_at, IsHit, GoesOn}
use Rattle.planning.specs.declared.find.Search.{Search}
use Rattle.planning.specs.declared.find.Hit.{Hit}
use Rattle.planning.specs.declared.rectangle.Rectangle.{Rectangle}
use Rattle.planning.proofs.Opens.{quiet, open_still}
use Rattle.planning.proofs.Closes.{close_still}
use Rattle.planning.proofs.Stretches.{Silent, opens, closes}

module _ {L : Type 0} (k : Kind L) (c : ℕ) (laws : Laws k c) (load : ℕ → L) where
  module _ (over : L) (h s t o z : ℕ) (from : o ≡ opening_of k load over s) (to : z ≡ closing_of k load over s (h - s)) (opened : o ≤ t) (not_closed : t < z) (inside : z ≤ h) where
    begins : o ≤ s
    begins = omega (arith, (opens k c laws load over s).0)

    ends : s ≤ z
    ends = omega (arith, (closes k c laws load over s (h - s) (s + (h - s)) refl).0)

    covered : (m : ℕ) → o ≤ m → m < z → quiet k over (load m) ≡ true
    covered m l u =
        let fits : s + (h - s) ≡ h = omega (arith, ends) in
        let silent : Silent k c laws load over m =
        elim (cases_lt m s) [
          | inl y ↦ (opens k c laws load over s).1 m (omega arith) y
          | inr y ↦ (closes k c laws load over s (h - s) h fits).2 m y (omega arith)
        ] in
        subst (λ v. So (k.same (k.joined over (load m)) v)) silent (laws.same_self (k.joined over (load m)))

    again : (o ≡ opening_of k load over t) × (z ≡ closing_of k load over t (h - t))
    again =
        let a = begins in
        let b = ends in
        elim (cases_lt t s) [
          | inl l ↦
              let quiet-between = λ (m : ℕ) (i : t ≤ m) (j : m < s). covered m (omega arith) (omega arith) in (
                from ∙ open_still k over load t (s - t) s (omega arith) quiet-between,
                to ∙ sym (close_still k over load t (s - t) (h - s) (h - t) s (omega arith) (omega arith) quiet-between),
              )
          | inr l ↦
              let quiet-between = λ (m : ℕ) (i : s ≤ m) (j : m < t). covered m (omega arith) (omega arith) in (
                from ∙ sym (open_still k over load s (t - s) t (omega arith) quiet-between),
                to ∙ close_still k over load s (t - s) (h - t) (h - s) t (omega arith) (omega arith) quiet-between,
              )
        ]

module _ {L : Type 0} (k : Kind L) (search : Search L) where
  abbrev load : ℕ → L
  load = loads k search

  abbrev h : ℕ
  h = search.horizon

  abbrev d : ℕ
  d = search.request.duration

  pub hit_again : {c : ℕ} (laws : Laws k c) (hit : Hit L) (over : L) (t : ℕ) → IsHit k search (Some hit) → GoesOn hit over t h → (hit.rectangle.opening ≡ opening_of k load over t) × (hit.rectangle.closing ≡ closing_of k load over t (h - t))
  hit_again laws hit over t is on =
      let s = hit.rectangle.start in
      let met = sym is.1 ∙ on.met in
      let from = ap (λ (q : Rectangle). q.opening) is.0 ∙ ap (λ v. opening_of k load v s) met in
      let to = ap (λ (q : Rectangle). q.closing) is.0 ∙ ap (λ v. closing_of k load v s (h - s)) met in
      again k _ laws load over h s t hit.rectangle.opening hit.rectangle.closing from to on.opened on.not_closed on.inside

  -- the newer of two, or the one that there is
  pub newer : (a b : Option (Hit L)) → IsHit k search a → IsHit k search b → IsHit k search (option_or a b)
  newer None b i j = j
  newer (Some hit) b i j = i

  -- what is found at a start, where as many units are free as are wanted
  module _ (s : ℕ) (over : L) (units : ℕ) (inside : in_window search.request s ≡ true) (met : over ≡ joined_over k load s d) (left : units ≡ k.free search.capacity over) where
    free_is : units ≡ free_from k search.capacity load search.request s
    free_is = left ∙ ap (k.free search.capacity) met

    pub some_found : (o z : ℕ) → o ≡ opening_of k load over s → z ≡ closing_of k load over s (h - s) → search.request.wanted ≤ units → (Some (record { start = s; units = units; opening = o; closing = z }) ≡ found_at k search s) × IsHit k search (Some (record { rectangle = record { start = s; units = units; opening = o; closing = z }; over = over }))
    some_found o z opened closed plenty =
        let own : record { start = s; units = units; opening = o; closing = z } ≡ rectangle_in k search s = cc in (
          ap Some own ∙ sym (cond-true _ _ _ (and_from (in_window search.request s) (enough search.request.wanted (free_from k search.capacity load search.request s)) inside (le-leb search.request.wanted (free_from k search.capacity load search.request s) (omega (arith, free_is))))),
          (own, met),
        )
