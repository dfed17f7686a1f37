-- A start that is no record's minute can slide to the minute before, and so down to a candidate. Assumes nothing.
use Rattle.std.proofs.Common.{◌≡◌, ℕ, zero, suc, ◌+◌, ◌-◌, ◌≤◌, leb, List, [], ◌∷◌, ◌++◌, map, sym, refl, ◌∙◌, subst, inl, inr, arith}
use mathlib.Core.Bool.{So}
use Rattle.std.proofs.lemmas.Bool.{le-leb, lt-leb, leb-true, and_parts, and_from, cases_order, cases_eq}
use Rattle.planning.specs.Theorems.{SearchComplete, SearchSound}
use Rattle.slots.specs.Lists.{In}
use Rattle.units.specs.Kinds.{Kind, Laws}
use Rattle.slots.specs.Stepped.{at, minutes}
use Rattle.slots.specs.declared.slot.Slot.{Slot}
use Rattle.planning.specs.Requests.{latest, in_window, enough}
use Rattle.planning.specs.Search.{Fits, CanStart, free_from, candidates}
use Rattle.planning.specs.declared.request.Request.{Request}
use Rattle.planning.proofs.Members.{in_kept, kept_in, dec_in, in_left}
use Rattle.planning.proofs.Joins.{startable}

module _ {L : Type 0} where
  -- nothing changes at a minute that no record has
  pub at_still : (b : L) (xs : List (Slot L)) (m : ℕ) → (In (suc m) (minutes xs) → ⊥) → at b xs m ≡ at b xs (suc m)
  at_still b [] m out = refl
  at_still b (x ∷ xs) m out =
      elim (cases_order x.minute (suc m)) [
        | inl e ↦ absurd (out (inl (sym e)))
        | inr (inl l) ↦ rw (le-leb x.minute m (omega arith), le-leb x.minute (suc m) (omega arith)) (at_still x.value xs m (λ i. out (inr i)))
        | inr (inr l) ↦ rw (lt-leb x.minute m (omega arith), lt-leb x.minute (suc m) l) (at_still b xs m (λ i. out (inr i)))
      ]

  fits_before : (k : Kind L) (c : ℕ) (laws : Laws k c) (load : ℕ → L) (p : L) (s d : ℕ) → load s ≡ load (suc s) → Fits k c load p (suc s) d → Fits k c load p s d
  fits_before k c laws load p s d e h m l u =
      elim (cases_eq s m) [
        | inl q ↦ subst (λ n. So (k.clear c p (load n))) q (subst (λ v. So (k.clear c p v)) (sym e) (h (suc s) (omega arith) (omega arith)))
        | inr n ↦ h m (omega arith) (omega arith)
      ]

  -- what is tried, before the window is looked at
  abbrev tried : Request → List (Slot L) → List ℕ
  tried request steps = request.ready ∷ latest request ∷ (minutes steps ++ map (λ m. m - request.duration) (minutes steps))

  slide : (k : Kind L) (c : ℕ) (laws : Laws k c) (load : ℕ → L) (steps : List (Slot L)) (request : Request) → ((m : ℕ) → at k.nothing steps m ≡ load m) → (s : ℕ) → request.ready ≤ s → s + request.duration ≤ request.deadline → CanStart k c load request s → (t : ℕ) × (request.ready ≤ t) × (t + request.duration ≤ request.deadline) × CanStart k c load request t × In t (tried request steps)
  slide k c laws load steps request says zero l u h = (zero, l, u, h, inl (omega arith))
  slide k c laws load steps request says (suc s) l u h =
      elim (cases_eq (suc s) request.ready) [
        | inl e ↦ (suc s, l, u, h, inl e)
        | inr n ↦
            elim (dec_in (suc s) (minutes steps)) [
              | inl i ↦ (suc s, l, u, h, inr (inr (in_left (suc s) (minutes steps) _ i)))
              | inr o ↦
                  let still : load s ≡ load (suc s) = sym (says s) ∙ at_still k.nothing steps s o ∙ says (suc s) in
                  slide k c laws load steps request says s (omega arith) (omega arith) (h.0, h.1, fits_before k c laws load h.0 s request.duration still h.2)
            ]
      ]

  pub search_complete : SearchComplete L
  search_complete k c laws load steps request says wants lasts s w h =
      let parts = and_parts (leb request.ready s) (leb (s + request.duration) request.deadline) w in
      let t = slide k c laws load steps request says s (leb-true _ _ parts.0) (leb-true _ _ parts.1) h in
      let inside = and_from (leb request.ready t.0) (leb (t.0 + request.duration) request.deadline) (le-leb _ _ t.1) (le-leb _ _ t.2) in
      let free = (startable k c laws load request t.0 wants lasts).0 t.3 in
      (t.0, in_kept (λ s. enough request.wanted (free_from k c load request s)) t.0 (candidates request steps) (in_kept (in_window request) t.0 (tried request steps) t.4 inside) (le-leb _ _ free))

  pub search_sound : SearchSound L
  search_sound k c laws load steps request wants lasts t i =
      let a = kept_in (λ s. enough request.wanted (free_from k c load request s)) t (candidates request steps) i in
      let b = kept_in (in_window request) t (tried request steps) a.0 in
      (b.1, (startable k c laws load request t wants lasts).1 (leb-true _ _ a.1))
