-- The slot list of bookings is canonical and says their loads, and follows an edit over one booking's minutes. Assumes nothing.
use Rattle.std.proofs.Common.{◌≡◌, ℕ, suc, ◌+◌, ◌≤◌, Bool, true, false, cond, ltb, leb, List, [], ◌∷◌, Decides, sym, refl, ap, ◌∙◌, subst, arith}
use mathlib.Core.Bool.{So}
use Rattle.std.proofs.lemmas.Bool.{le-ltb, and_right}
use Rattle.slots.proofs.Unique.{unique}
use Rattle.slots.proofs.Changes.{changes_canonical, changes_at}
use Rattle.slots.proofs.Edited.{edited_right}
use Rattle.units.specs.Kinds.{Kind, Laws}
use Rattle.bookings.specs.Bookings.{stands, standing, put_all, load_at, Within, slot_list}
use Rattle.bookings.specs.Theorems.{SlotsRight, SlotsOnly, SlotsAfterAdding, SlotsAfterRemoving}
use Rattle.bookings.specs.declared.booking.Booking.{Booking}
use Rattle.bookings.proofs.Boards.{addition_sound, removal_sound}

module _ {L : Type 0} where
  -- the kind's own test tells loads apart
  pub same_told : (k : Kind L) (c : ℕ) → Laws k c → (a b : L) → Decides (k.same a b) (a ≡ b)
  same_told k c laws a b = (laws.same_is a b, λ p. subst (λ v. So (k.same a v)) p (laws.same_self a))

  -- nothing stands from the horizon on
  pub none_late : (h : ℕ) (bs : List (Booking L)) → Within h bs → (j : ℕ) → h ≤ j → standing bs j ≡ []
  none_late h [] w j l = refl
  none_late h (b ∷ bs) w j l = rw (and_right (leb b.start j) (ltb j b.end) (le-ltb j b.end (omega arith))) (none_late h bs w.1 j l)

  pub slots_right : SlotsRight L
  slots_right k c laws h bs w =
      let none = λ (j : ℕ) (l : h ≤ j). ap (put_all k c k.nothing) (none_late h bs w j l) in
      let told = same_told k c laws in
      (changes_canonical k.same told (load_at k c bs) k.nothing 0 (suc h), λ m. changes_at k.same told (load_at k c bs) k.nothing 0 h m (λ j l. none (0 + h) (omega arith) ∙ sym (none j (omega arith))) (omega arith))

  pub slots_only : SlotsOnly L
  slots_only k c laws h bs xs w can says = let r = slots_right k c laws h bs w in unique k.nothing 0 xs (slot_list k c h bs) can r.0 (λ m. says m ∙ sym (r.1 m))

  -- old becomes new where the test holds, by f
  by_test : (t : Bool) (f : L → L) (was old is new : L) → was ≡ old → is ≡ cond t (f was) was → (t ≡ true → new ≡ f old) → (t ≡ false → new ≡ old) → is ≡ new
  by_test true f was old is new w e there elsewhere = e ∙ ap f w ∙ sym (there refl)
  by_test false f was old is new w e there elsewhere = e ∙ w ∙ sym (elsewhere refl)

  pub slots_after_adding : SlotsAfterAdding L
  slots_after_adding k c laws h bs all b r within within_all sound fits =
      let a = addition_sound k c laws bs all b r sound fits in
      let e = edited_right k.same (same_told k c laws) (k.put c b.claim) b.start b.end k.nothing (slot_list k c h bs) in
      slots_only k c laws h all _ within_all e.0 (λ m. by_test (stands b m) (k.put c b.claim) _ _ _ _ ((slots_right k c laws h bs within).1 m) (e.1 m) (a.laid m) (a.elsewhere m))

  pub slots_after_removing : SlotsAfterRemoving L
  slots_after_removing k c laws h bs others b r within within-others sound =
      let a = removal_sound k c laws bs others b r sound in
      let e = edited_right k.same (same_told k c laws) (k.lift b.claim) b.start b.end k.nothing (slot_list k c h bs) in
      slots_only k c laws h others _ within-others e.0 (λ m. by_test (stands b m) (k.lift b.claim) _ _ _ _ ((slots_right k c laws h bs within).1 m) (e.1 m) (a.lifted m) (a.elsewhere m))
