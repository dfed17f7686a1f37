-- Each record's minute is the start or the end of a booking, so there are few. Assumes nothing.
use Rattle.std.proofs.Common.{◌≡◌, ℕ, zero, suc, ◌*◌, ◌<◌, ◌≤◌, false, cond, ◌&&◌, ltb, leb, List, [], ◌∷◌, length, sym, refl, ap, ◌∙◌, ap₂, inl, inr, arith}
use Rattle.std.proofs.lemmas.Bool.{le-leb, lt-leb, cases_order, and_left}
use Rattle.bookings.specs.Theorems.{SlotsFew}
use Rattle.slots.specs.Lists.{In}
use Rattle.units.specs.Kinds.{Kind, Laws}
use Rattle.slots.specs.Stepped.{at, minutes, Canonical}
use Rattle.slots.specs.declared.slot.Slot.{Slot}
use Rattle.bookings.specs.declared.booking.Booking.{Booking}
use Rattle.bookings.specs.Bookings.{stands, standing, put_all, load_at}
use Rattle.planning.proofs.Members.{dec_in}
use Rattle.slots.proofs.Unique.{canonical_ascending, at_first, at_before, at_after}
use Rattle.slots.proofs.Rooms.{no_more}

-- a test of m against a number that is not the next minute has one answer at both
leb_still : (a m : ℕ) → (suc m ≡ a → ⊥) → leb a m ≡ leb a (suc m)
leb_still a m o =
    elim (cases_order a (suc m)) [
      | inl e ↦ absurd (o (sym e))
      | inr (inl l) ↦ le-leb a m (omega arith) ∙ sym (le-leb a (suc m) (omega arith))
      | inr (inr l) ↦ lt-leb a m (omega arith) ∙ sym (lt-leb a (suc m) l)
    ]

ltb_still : (m a : ℕ) → (suc m ≡ a → ⊥) → ltb m a ≡ ltb (suc m) a
ltb_still m a o =
    elim (cases_order a (suc m)) [
      | inl e ↦ absurd (o (sym e))
      | inr (inl l) ↦ lt-leb (suc m) a (omega arith) ∙ sym (lt-leb (suc (suc m)) a (omega arith))
      | inr (inr l) ↦ le-leb (suc m) a (omega arith) ∙ sym (le-leb (suc (suc m)) a (omega arith))
    ]

module _ {L : Type 0} where
  abbrev pub ends : List (Booking L) → List ℕ
  ends [] = []
  ends (b ∷ bs) = b.start ∷ b.end ∷ ends bs

  pub length_ends : (bs : List (Booking L)) → length (ends bs) ≡ 2 * length bs
  length_ends [] = refl
  length_ends (b ∷ bs) = omega (arith, length_ends bs)

  standing_still : (bs : List (Booking L)) (m : ℕ) → (In (suc m) (ends bs) → ⊥) → standing bs m ≡ standing bs (suc m)
  standing_still [] m o = refl
  standing_still (b ∷ bs) m o =
      let one : stands b m ≡ stands b (suc m) = ap₂ ◌&&◌ (leb_still b.start m (λ e. o (inl e))) (ltb_still m b.end (λ e. o (inr (inl e)))) in
      ap₂ (λ t ps. cond t (b.claim ∷ ps) ps) one (standing_still bs m (λ i. o (inr (inr i))))

  standing_first : (bs : List (Booking L)) → (In 0 (ends bs) → ⊥) → standing bs 0 ≡ []
  standing_first [] o = refl
  standing_first (b ∷ bs) o =
      let late : 0 < b.start = elim (cases_order 0 b.start) [ inl e ↦ absurd (o (inl e)) | inr (inl l) ↦ l | inr (inr l) ↦ absurd (omega arith) ] in
      let out : stands b 0 ≡ false = and_left (leb b.start 0) (ltb 0 b.end) (lt-leb b.start 0 late) in
      rw out (standing_first bs (λ i. o (inr (inr i))))

  not_low : (low : ℕ) (b : L) (xs : List (Slot L)) → Canonical low b xs → (n : ℕ) → In n (minutes xs) → low ≤ n
  not_low low b [] h n i = absurd i
  not_low low b (x ∷ xs) h n (inl e) = omega arith
  not_low low b (x ∷ xs) h n (inr i) = omega (arith, not_low (suc x.minute) x.value xs h.2 n i)

  -- at a record's minute the value changes
  changed : (low : ℕ) (b : L) (xs : List (Slot L)) → Canonical low b xs → (n : ℕ) → In (suc n) (minutes xs) → at b xs n ≡ at b xs (suc n) → ⊥
  changed low b [] h n i q = i
  changed low b (x ∷ xs) h n (inl e) q =
      h.1 (sym (at_first low b x xs h) ∙ sym (ap (at b (x ∷ xs)) e) ∙ sym q ∙ at_before low b x xs n h (omega arith))
  changed low b (x ∷ xs) h n (inr i) q =
      let l = not_low (suc x.minute) x.value xs h.2 (suc n) i in
      changed (suc x.minute) x.value xs h.2 n i (sym (at_after b x xs n (omega arith)) ∙ q ∙ at_after b x xs (suc n) (omega arith))

  changed_first : (low : ℕ) (b : L) (xs : List (Slot L)) → Canonical low b xs → In 0 (minutes xs) → at b xs 0 ≡ b → ⊥
  changed_first low b [] h i q = i
  changed_first low b (x ∷ xs) h (inl e) q = h.1 (sym (at_first low b x xs h) ∙ sym (ap (at b (x ∷ xs)) e) ∙ q)
  changed_first low b (x ∷ xs) h (inr i) q = omega (arith, not_low (suc x.minute) x.value xs h.2 0 i)

  pub at_an_end : (k : Kind L) (c : ℕ) (laws : Laws k c) (bs : List (Booking L)) (xs : List (Slot L)) → Canonical 0 k.nothing xs → ((m : ℕ) → at k.nothing xs m ≡ load_at k c bs m) → (n : ℕ) → In n (minutes xs) → In n (ends bs)
  at_an_end k c laws bs xs h says zero i =
      elim (dec_in 0 (ends bs)) [ inl j ↦ j | inr o ↦ absurd (changed_first 0 k.nothing xs h i (says 0 ∙ ap (put_all k c k.nothing) (standing_first bs o))) ]
  at_an_end k c laws bs xs h says (suc n) i =
      elim (dec_in (suc n) (ends bs)) [ inl j ↦ j | inr o ↦ absurd (changed 0 k.nothing xs h n i (says n ∙ ap (put_all k c k.nothing) (standing_still bs n o) ∙ sym (says (suc n)))) ]

  pub slots_few : SlotsFew L
  slots_few k c laws bs xs h says = omega (arith, no_more 0 xs (ends bs) (canonical_ascending 0 k.nothing xs h) (at_an_end k c laws bs xs h says), length_ends bs)
