-- The order in which claims are put on does not count, and no unit is lost. Assumes nothing.
use Rattle.std.proofs.Common.{◌≡◌, ℕ, suc, ◌+◌, Bool, true, false, cond, List, [], ◌∷◌, refl, ap, ◌∙◌, subst, arith}
use mathlib.Core.Path.{fun_ext}
use Rattle.slots.specs.Lists.{Reordered, none_left, keep, swap, after}
use Rattle.units.specs.Kinds.{Kind, Laws}
use Rattle.slots.specs.Stepped.{changes}
use Rattle.bookings.specs.Bookings.{stands, standing, put_all, AllClear, taken}
use Rattle.bookings.specs.declared.booking.Booking.{Booking}
use Rattle.bookings.specs.Theorems.{UnitsConserved, RowsInAnyOrder, OrderIsFree, SlotsOfClaims}

module _ {L : Type 0} where
  go : (k : Kind L) (c : ℕ) (laws : Laws k c) (l : L) {ps qs : List L} → Reordered ps qs → AllClear k c l ps → AllClear k c l qs × (put_all k c l ps ≡ put_all k c l qs)
  go k c laws l none_left h = (tt, refl)
  go k c laws l (keep p r) h = let t = go k c laws (k.put c p l) r h.1 in ((h.0, t.0), t.1)
  go k c laws l (swap p q ps) h =
      let t = laws.put_turned p q l h.0 h.1.0 in
      ((t.0, (t.1, subst (λ v. AllClear k c v ps) t.2 h.1.1)), ap (λ v. put_all k c v ps) t.2)
  go k c laws l (after r t) h = let a = go k c laws l r h in let b = go k c laws l t a.0 in (b.0, a.1 ∙ b.1)

  pub order_is_free : OrderIsFree L
  order_is_free k c laws l ps qs r h = go k c laws l r h

  pub slots_of_claims : SlotsOfClaims L
  slots_of_claims k c laws h bs ds sound r = ap (λ load. changes k.same load k.nothing 0 (suc h)) (fun_ext (λ m. (go k c laws k.nothing (r m) (sound m)).1))

  same_rows : {xs : List L} → Reordered xs xs
  same_rows {xs} = all xs
    where
      all : (ys : List L) → Reordered ys ys
      all [] = none_left
      all (y ∷ ys) = keep y (all ys)

  keep_if : (b : Bool) (x : L) {xs ys : List L} → Reordered xs ys → Reordered (cond b (x ∷ xs) xs) (cond b (x ∷ ys) ys)
  keep_if true x r = keep x r
  keep_if false x r = r

  swap_if : (a b : Bool) (x y : L) (xs : List L) → Reordered (cond a (x ∷ cond b (y ∷ xs) xs) (cond b (y ∷ xs) xs)) (cond b (y ∷ cond a (x ∷ xs) xs) (cond a (x ∷ xs) xs))
  swap_if true true x y xs = swap x y xs
  swap_if true false x y xs = same_rows
  swap_if false true x y xs = same_rows
  swap_if false false x y xs = same_rows

  pub standing_reordered : (m : ℕ) {bs ds : List (Booking L)} → Reordered bs ds → Reordered (standing bs m) (standing ds m)
  standing_reordered m none_left = none_left
  standing_reordered m (keep b r) = keep_if (stands b m) b.claim (standing_reordered m r)
  standing_reordered m (swap a b bs) = swap_if (stands a m) (stands b m) a.claim b.claim (standing bs m)
  standing_reordered m (after r t) = after (standing_reordered m r) (standing_reordered m t)

  pub rows_in_any_order : RowsInAnyOrder L
  rows_in_any_order k c laws h bs ds r sound =
      (λ m. (go k c laws k.nothing (standing_reordered m r) (sound m)).0, slots_of_claims k c laws h bs ds sound (λ m. standing_reordered m r))

  taken_and_free : (k : Kind L) (c : ℕ) (laws : Laws k c) (l : L) (ps : List L) → AllClear k c l ps → taken k ps + k.free c (put_all k c l ps) ≡ k.free c l
  taken_and_free k c laws l [] h = omega arith
  taken_and_free k c laws l (p ∷ ps) h = omega (arith, taken_and_free k c laws (k.put c p l) ps h.1, laws.free_put p l h.0)

  pub units_conserved : UnitsConserved L
  units_conserved k c laws bs sound m = taken_and_free k c laws k.nothing (standing bs m) (sound m) ∙ laws.free_nothing
