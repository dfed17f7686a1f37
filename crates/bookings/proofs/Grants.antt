-- From the search, the choice and the laws: a grant keeps the board sound, and a refusal is right. Assumes nothing.
use Rattle.std.proofs.Common.{◌≡◌, ℕ, ◌+◌, ◌≤◌, ltb, leb, List, [], ◌∷◌, map, Some, None, sym, ap, subst, arith}
use mathlib.Core.Bool.{So}
use Rattle.std.proofs.lemmas.Bool.{leb-true, ltb-true, and_parts}
use Rattle.slots.specs.Lists.{In}
use Rattle.units.specs.Kinds.{Kind, Laws}
use Rattle.slots.specs.Stepped.{at}
use Rattle.bookings.specs.Bookings.{load_at, Sound, FitsBeside}
use Rattle.slots.specs.declared.slot.Slot.{Slot}
use Rattle.planning.specs.Requests.{in_window}
use Rattle.planning.specs.Search.{CanStart, Fits, joined_over, feasible}
use Rattle.planning.specs.Rectangles.{rectangle}
use Rattle.planning.specs.Policies.{Preference, first_of, granted}
use Rattle.planning.specs.declared.request.Request.{Request}
use Rattle.planning.specs.declared.rectangle.Rectangle.{Rectangle}
use Rattle.bookings.specs.declared.booking.Booking.{Booking}
use Rattle.bookings.specs.Grants.{Granted, booked}
use Rattle.planning.proofs.Members.{in_map, map_in}
use Rattle.planning.proofs.Joins.{startable, fits_from_clear}
use Rattle.planning.proofs.Slides.{search_complete, search_sound}
use Rattle.bookings.proofs.Boards.{addition_sound}
use Rattle.planning.proofs.Choices.{choice_best}

pub none_in : (policy : Preference) (rs : List Rectangle) → first_of policy rs ≡ None → (r : Rectangle) → In r rs → ⊥
none_in policy [] e r i = i
none_in policy (x ∷ xs) e r i = let z : ◌≡◌ {A = ℕ} 0 1 = cc in omega arith

module _ {L : Type 0} (k : Kind L) (c : ℕ) (laws : Laws k c) where
  pub fits_beside : (bs : List (Booking L)) (request : Request) (s : ℕ) (p : L) → Fits k c (load_at k c bs) p s request.duration → FitsBeside k c bs (booked request s p)
  fits_beside bs request s p fits m stands =
      let parts = and_parts (leb s m) (ltb m (s + request.duration)) stands in
      fits m (leb-true _ _ parts.0) (ltb-true _ _ parts.1)

  grant_at : (bs : List (Booking L)) (steps : List (Slot L)) (request : Request) → Sound k c bs → 1 ≤ request.wanted → 1 ≤ request.duration → (s : ℕ) → In s (feasible k c (load_at k c bs) request steps) → Granted k c bs request s
  grant_at bs steps request sound wants lasts s i =
      let starts = search_sound k c laws (load_at k c bs) steps request wants lasts s i in
      let p = laws.pick_enough request.wanted (joined_over k (load_at k c bs) s request.duration) wants ((startable k c laws (load_at k c bs) request s wants lasts).0 starts.1) in
      record {
        claim = p.0;
        picked = p.1;
        sized = p.2;
        inside = starts.0;
        added = λ all r. addition_sound k c laws bs all (booked request s p.0) r sound (fits_beside bs request s p.0 (fits_from_clear k c laws (load_at k c bs) p.0 s request.duration p.3));
      }

  pub grant_right : (policy : Preference) (h : ℕ) (bs : List (Booking L)) (steps : List (Slot L)) (request : Request) → Sound k c bs → ((m : ℕ) → at k.nothing steps m ≡ load_at k c bs m) → 1 ≤ request.wanted → 1 ≤ request.duration → ((r : Rectangle) → granted k c policy h (load_at k c bs) request steps ≡ Some r → Granted k c bs request r.start) × (granted k c policy h (load_at k c bs) request steps ≡ None → (s : ℕ) → So (in_window request s) → CanStart k c (load_at k c bs) request s → ⊥)
  grant_right policy h bs steps request sound says wants lasts =
      let of-start = rectangle k c h (load_at k c bs) request in
      let starts = feasible k c (load_at k c bs) request steps in (
        λ r e. let x = map_in of-start r starts (choice_best policy (map of-start starts) r e).among in
            subst (Granted k c bs request) (sym (ap (λ v. v.start) x.2)) (grant_at bs steps request sound wants lasts x.0 x.1),
        λ e s w can. let t = search_complete k c laws (load_at k c bs) steps request says wants lasts s w can in
            none_in policy (map of-start starts) e (of-start t.0) (in_map of-start t.0 starts t.1),
      )
