-- A booking taken from a sound board, and one that comes to it. Assumes nothing.
use Rattle.std.proofs.Common.{◌≡◌, ℕ, Bool, true, false, List, [], ◌∷◌, sym, refl, ap, ◌∙◌, subst}
use mathlib.Core.Bool.{So}
use Rattle.slots.specs.Lists.{Reordered, none_left, keep, swap, after}
use Rattle.units.specs.Kinds.{Kind, Laws}
use Rattle.bookings.specs.Bookings.{stands, standing, put_all, AllClear, load_at, Sound, FitsBeside, Removed, Added}
use Rattle.bookings.specs.declared.booking.Booking.{Booking}
use Rattle.bookings.proofs.Orders.{order_is_free, standing_reordered}

module _ {A : Type 0} where
  pub turned : {xs ys : List A} → Reordered xs ys → Reordered ys xs
  turned none_left = none_left
  turned (keep x r) = keep x (turned r)
  turned (swap x y xs) = swap y x xs
  turned (after r t) = after (turned t) (turned r)

module _ {L : Type 0} where
  -- the first claim may as well come last
  first_last : (k : Kind L) (c : ℕ) (laws : Laws k c) (l p : L) (ps : List L) → AllClear k c l (p ∷ ps) → AllClear k c l ps × So (k.clear c p (put_all k c l ps)) × (put_all k c l (p ∷ ps) ≡ k.put c p (put_all k c l ps))
  first_last k c laws l p [] h = (tt, h.0, refl)
  first_last k c laws l p (q ∷ ps) h =
      let t = laws.put_turned p q l h.0 h.1.0 in
      let r = first_last k c laws (k.put c q l) p ps (t.1, subst (λ v. AllClear k c v ps) t.2 h.1.1) in
      ((t.0, r.0), r.1, ap (λ v. put_all k c v ps) t.2 ∙ r.2)

  last_first : (k : Kind L) (c : ℕ) (laws : Laws k c) (l p : L) (ps : List L) → AllClear k c l ps → So (k.clear c p (put_all k c l ps)) → AllClear k c l (p ∷ ps)
  last_first k c laws l p [] h g = (g, tt)
  last_first k c laws l p (q ∷ ps) h g =
      let r = last_first k c laws (k.put c q l) p ps h.1 g in
      let t = laws.put_turned q p l h.0 r.0 in
      (t.0, (t.1, subst (λ v. AllClear k c v ps) t.2 r.1))

  standing_with : (b : Booking L) (bs : List (Booking L)) (m : ℕ) → So (stands b m) → standing (b ∷ bs) m ≡ b.claim ∷ standing bs m
  standing_with b bs m s = rw s

  standing_without : (b : Booking L) (bs : List (Booking L)) (m : ℕ) → stands b m ≡ false → standing (b ∷ bs) m ≡ standing bs m
  standing_without b bs m s = rw s

  module _ (k : Kind L) (c : ℕ) (laws : Laws k c) where
    -- by whether b stands at m, the claims there are those of the others with b's first, or those of the others
    with_first : (b : Booking L) (bs : List (Booking L)) (m : ℕ) → So (stands b m) → AllClear k c k.nothing (standing (b ∷ bs) m) → AllClear k c k.nothing (b.claim ∷ standing bs m)
    with_first b bs m s h = subst (AllClear k c k.nothing) (standing_with b bs m s) h

    others_clear : (b : Booking L) (bs : List (Booking L)) (m : ℕ) → AllClear k c k.nothing (standing (b ∷ bs) m) → (t : Bool) → stands b m ≡ t → AllClear k c k.nothing (standing bs m)
    others_clear b bs m h true s = (first_last k c laws k.nothing b.claim (standing bs m) (with_first b bs m s h)).0
    others_clear b bs m h false s = subst (AllClear k c k.nothing) (standing_without b bs m s) h

    all_clear : (b : Booking L) (bs : List (Booking L)) → FitsBeside k c bs b → (m : ℕ) → AllClear k c k.nothing (standing bs m) → (t : Bool) → stands b m ≡ t → AllClear k c k.nothing (standing (b ∷ bs) m)
    all_clear b bs fits m h true s = subst (AllClear k c k.nothing) (sym (standing_with b bs m s)) (last_first k c laws k.nothing b.claim (standing bs m) h (fits m s))
    all_clear b bs fits m h false s = subst (AllClear k c k.nothing) (sym (standing_without b bs m s)) h

    -- b's claim is put on the load of the others
    laid_on : (b : Booking L) (bs : List (Booking L)) (m : ℕ) → So (stands b m) → AllClear k c k.nothing (standing (b ∷ bs) m) → load_at k c (b ∷ bs) m ≡ k.put c b.claim (load_at k c bs m)
    laid_on b bs m s h = ap (put_all k c k.nothing) (standing_with b bs m s) ∙ (first_last k c laws k.nothing b.claim (standing bs m) (with_first b bs m s h)).2

    pub removal_sound : (bs others : List (Booking L)) (b : Booking L) → Reordered bs (b ∷ others) → Sound k c bs → Removed k c bs others b
    removal_sound bs others b r sound =
        let first = λ (m : ℕ). order_is_free k c laws k.nothing (standing bs m) (standing (b ∷ others) m) (standing_reordered m r) (sound m) in
        let clear = λ (m : ℕ) (s : So (stands b m)). (first_last k c laws k.nothing b.claim (standing others m) (with_first b others m s (first m).0)).1 in
        record {
          sound = λ m. others_clear b others m (first m).0 (stands b m) refl;
          fits = clear;
          lifted = λ m s. sym (ap (k.lift b.claim) ((first m).1 ∙ laid_on b others m s (first m).0) ∙ laws.lift_put b.claim (load_at k c others m) (clear m s));
          elsewhere = λ m s. sym ((first m).1 ∙ ap (put_all k c k.nothing) (standing_without b others m s));
        }

    pub addition_sound : (bs all : List (Booking L)) (b : Booking L) → Reordered all (b ∷ bs) → Sound k c bs → FitsBeside k c bs b → Added k c bs all b
    addition_sound bs all b r sound fits =
        let whole = λ (m : ℕ). all_clear b bs fits m (sound m) (stands b m) refl in
        let back = λ (m : ℕ). order_is_free k c laws k.nothing (standing (b ∷ bs) m) (standing all m) (standing_reordered m (turned r)) (whole m) in
        record {
          sound = λ m. (back m).0;
          laid = λ m s. sym (back m).1 ∙ laid_on b bs m s (whole m);
          elsewhere = λ m s. sym (back m).1 ∙ ap (put_all k c k.nothing) (standing_without b bs m s);
        }
