-- What a hold finds: the best start where there is one, and nothing only where there is no room. Assumes nothing.
use Rattle.std.proofs.Common.{◌≡◌, ℕ, ◌+◌, ◌≤◌, ltb, leb, List, map, Some, None, Option, sym, refl, ap, ◌∙◌, subst, arith}
use Rattle.std.proofs.lemmas.Bool.{le-leb, lt-ltb, leb-true, and_parts, and_from}
use Rattle.slots.specs.Lists.{In}
use Rattle.units.specs.Kinds.{Kind, Laws}
use Rattle.planning.specs.Search.{feasible, joined_over}
use Rattle.planning.specs.Rectangles.{rectangle}
use Rattle.planning.specs.Policies.{Preference, Unbettered, granted, claimed, found}
use Rattle.planning.specs.declared.request.Request.{Request}
use Rattle.planning.specs.declared.rectangle.Rectangle.{Rectangle}
use Rattle.planning.specs.declared.found.Found.{Found}
use Rattle.planning.proofs.Members.{map_in}
use Rattle.planning.proofs.Joins.{startable, fits_from_clear}
use Rattle.planning.proofs.Slides.{search_sound}
use Rattle.planning.proofs.Choices.{choice_best}
use Rattle.bookings.specs.Bookings.{load_at, Sound, Within, slot_list, FitsBeside}
use Rattle.bookings.specs.Grants.{booked, booking_of}
use Rattle.bookings.specs.declared.booking.Booking.{Booking}
use Rattle.bookings.proofs.Grants.{fits_beside, grant_right}
use Rattle.bookings.proofs.Lists.{slots_right}

pub some_none : {A : Type 0} (x : A) → Some x ≡ None → ⊥
some_none x e = let z : ◌≡◌ {A = ℕ} 0 1 = cc in omega arith

pub some_is : {A : Type 0} (x y : A) → Some x ≡ Some y → x ≡ y
some_is x y e = cc

module _ {L : Type 0} (k : Kind L) (c : ℕ) (laws : Laws k c) (h : ℕ) (bs : List (Booking L)) where
  abbrev pub starts_of : Request → List ℕ
  starts_of request = feasible k c (load_at k c bs) request (slot_list k c h bs)

  abbrev pub rectangle_of : Request → ℕ → Rectangle
  rectangle_of request = rectangle k c h (load_at k c bs) request

  -- some claim fits somewhere in the window
  abbrev pub Room : Request → Type 0
  Room request = (s : ℕ) × (p : L) × (request.ready ≤ s) × (s + request.duration ≤ request.deadline) × (k.size p ≡ request.wanted) × FitsBeside k c bs (booked request s p)

  pub record Right (request : Request) (policy : Preference) (x : Booking L) : Type 0 where
    pub size : k.size x.claim ≡ request.wanted
    pub lasts : x.end ≡ x.start + request.duration
    pub ready : request.ready ≤ x.start
    pub in_time : x.start + request.duration ≤ request.deadline
    pub fits : FitsBeside k c bs x
    pub possible : In x.start (starts_of request)
    pub best : Unbettered policy (map (rectangle_of request) (starts_of request)) (rectangle_of request x.start)

  -- the search's choice, with the claim that the kind picks for it
  picked : (request : Request) (policy : Preference) → 1 ≤ request.wanted → 1 ≤ request.duration → (r : Rectangle) → granted k c policy h (load_at k c bs) request (slot_list k c h bs) ≡ Some r → (p : L) × (k.pick c request.wanted (joined_over k (load_at k c bs) r.start request.duration) ≡ Some p) × Right request policy (booked request r.start p)
  picked request policy wants lasts r e =
      let best = choice_best policy (map (rectangle_of request) (starts_of request)) r e in
      let s = map_in (rectangle_of request) r (starts_of request) best.among in
      let there : r.start ≡ s.0 = ap (λ v. v.start) s.2 in
      let i = subst (λ v. In v (starts_of request)) (sym there) s.1 in
      let sound = search_sound k c laws (load_at k c bs) (slot_list k c h bs) request wants lasts r.start i in
      let window = and_parts (leb request.ready r.start) (leb (r.start + request.duration) request.deadline) sound.0 in
      let p = laws.pick_enough request.wanted (joined_over k (load_at k c bs) r.start request.duration) wants ((startable k c laws (load_at k c bs) request r.start wants lasts).0 sound.1) in (
        p.0,
        p.1,
        record {
          size = p.2;
          lasts = refl;
          ready = leb-true _ _ window.0;
          in_time = leb-true _ _ window.1;
          fits = fits_beside k c laws bs request r.start p.0 (fits_from_clear k c laws (load_at k c bs) p.0 r.start request.duration p.3);
          possible = i;
          best = subst (Unbettered policy (map (rectangle_of request) (starts_of request))) (s.2 ∙ ap (rectangle_of request) (sym there)) best;
        },
      )

  -- the booking of a rectangle, by the claim that the kind picks
  picked_booking : (request : Request) (r : Rectangle) (p : L) → k.pick c request.wanted (joined_over k (load_at k c bs) r.start request.duration) ≡ Some p → booking_of request (claimed k c (load_at k c bs) request (Some r)) ≡ Some (booked request r.start p)
  picked_booking request r p e = ap (λ o. booking_of request (elim o as (λ _. Option (Found L)) [ None ↦ None | Some q ↦ Some (record { rectangle = r; claim = q }) ])) e

  pub found_right : (request : Request) (policy : Preference) → 1 ≤ request.wanted → 1 ≤ request.duration → (x : Booking L) → booking_of request (found k c policy h (load_at k c bs) request (slot_list k c h bs)) ≡ Some x → Right request policy x
  found_right request policy wants lasts x = go (granted k c policy h (load_at k c bs) request (slot_list k c h bs)) refl
    where
      go : (o : Option Rectangle) → granted k c policy h (load_at k c bs) request (slot_list k c h bs) ≡ o → booking_of request (claimed k c (load_at k c bs) request o) ≡ Some x → Right request policy x
      go None e q = absurd (some_none x (sym q))
      go (Some r) e q = let p = picked request policy wants lasts r e in subst (Right request policy) (some_is _ x (sym (picked_booking request r p.0 p.1) ∙ q)) p.2

  pub found_none : (request : Request) (policy : Preference) → Sound k c bs → Within h bs → 1 ≤ request.wanted → 1 ≤ request.duration → booking_of request (found k c policy h (load_at k c bs) request (slot_list k c h bs)) ≡ None → Room request → ⊥
  found_none request policy sound within wants lasts = go (granted k c policy h (load_at k c bs) request (slot_list k c h bs)) refl
    where
      go : (o : Option Rectangle) → granted k c policy h (load_at k c bs) request (slot_list k c h bs) ≡ o → booking_of request (claimed k c (load_at k c bs) request o) ≡ None → Room request → ⊥
      go None e q room =
          let s = room.0 in
          (grant_right k c laws policy h bs (slot_list k c h bs) request sound (slots_right k c laws h bs within).1 wants lasts).1 e s
          (and_from (leb request.ready s) (leb (s + request.duration) request.deadline) (le-leb _ _ room.2) (le-leb _ _ room.3))
          (room.1, room.4, λ m l u. room.5 m (and_from (leb s m) (ltb m (s + request.duration)) (le-leb _ _ l) (lt-ltb _ _ u)))
      go (Some r) e q room = let p = picked request policy wants lasts r e in some_none (booked request r.start p.0) (sym (picked_booking request r p.0 p.1) ∙ q)
