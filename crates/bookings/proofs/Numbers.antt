-- Rows by their numbers: what is found, replaced and taken out. Assumes nothing.
use Rattle.std.proofs.Common.{◌≡◌, ℕ, suc, ◌<◌, ◌≤◌, Bool, true, false, cond, eqb, List, [], ◌∷◌, ◌++◌, length, Some, None, sym, refl, ap, ◌∙◌, subst, inl, inr, append-nil, arith}
use Rattle.std.proofs.lemmas.Bool.{eq-eqb, ne_eqb}
use Rattle.slots.specs.Lists.{In, Reordered, none_left, keep, swap, after}
use Rattle.bookings.specs.Bookings.{Within}
use Rattle.bookings.specs.Rows.{bookings, Numbered, numbered, replaced}
use Rattle.bookings.specs.declared.booking.Booking.{Booking}
use Rattle.bookings.specs.declared.row.Row.{Row}
use Rattle.bookings.proofs.Found.{some_none, some_is}

module _ {A : Type 0} where
  pub all_same : (xs : List A) → Reordered xs xs
  all_same [] = none_left
  all_same (x ∷ xs) = keep x (all_same xs)

  -- what stands at any place may as well stand first
  pub to_front : (xs : List A) (y : A) (ys : List A) → Reordered (xs ++ (y ∷ ys)) (y ∷ (xs ++ ys))
  to_front [] y ys = all_same (y ∷ ys)
  to_front (x ∷ xs) y ys = after (keep x (to_front xs y ys)) (swap x y (xs ++ ys))

  pub at_the_end : (xs : List A) (y : A) → Reordered (xs ++ (y ∷ [])) (y ∷ xs)
  at_the_end xs y = subst (λ ys. Reordered (xs ++ (y ∷ [])) (y ∷ ys)) (append-nil xs) (to_front xs y [])

module _ {L : Type 0} where
  pub bookings_more : (rows : List (Row L)) (r : Row L) → bookings (rows ++ (r ∷ [])) ≡ bookings rows ++ (r.booking ∷ [])
  bookings_more [] r = refl
  bookings_more (x ∷ rows) r = ap (λ bs. x.booking ∷ bs) (bookings_more rows r)

  pub within_reordered : (h : ℕ) {bs ds : List (Booking L)} → Reordered bs ds → Within h bs → Within h ds
  within_reordered h none_left w = w
  within_reordered h (keep b r) w = (w.0, within_reordered h r w.1)
  within_reordered h (swap a b bs) w = (w.1.0, (w.0, w.1.1))
  within_reordered h (after r t) w = within_reordered h t (within_reordered h r w)

  -- by whether the row at the head has the number
  pub taken_out : (n : ℕ) (rows : List (Row L)) (r : Row L) → numbered n rows ≡ Some r → Reordered (bookings rows) (r.booking ∷ bookings (replaced n [] rows))
  taken_out n [] r e = absurd (some_none r (sym e))
  taken_out n (x ∷ rows) r e = go (eqb x.number n) (taken_out n rows r) e
    where
      go : (t : Bool) → (numbered n rows ≡ Some r → Reordered (bookings rows) (r.booking ∷ bookings (replaced n [] rows))) → cond t (Some x) (numbered n rows) ≡ Some r → Reordered (x.booking ∷ bookings rows) (r.booking ∷ bookings (cond t rows (x ∷ replaced n [] rows)))
      go true rest q = subst (λ v. Reordered (x.booking ∷ bookings rows) (v.booking ∷ bookings rows)) (some_is x r q) (all_same (x.booking ∷ bookings rows))
      go false rest q = after (keep x.booking (rest q)) (swap x.booking r.booking (bookings (replaced n [] rows)))

  pub kept_bookings : (n : ℕ) (rows : List (Row L)) (r v : Row L) → v.booking ≡ r.booking → numbered n rows ≡ Some r → bookings (replaced n (v ∷ []) rows) ≡ bookings rows
  kept_bookings n [] r v b e = refl
  kept_bookings n (x ∷ rows) r v b e = go (eqb x.number n) (kept_bookings n rows r v b) e
    where
      go : (t : Bool) → (numbered n rows ≡ Some r → bookings (replaced n (v ∷ []) rows) ≡ bookings rows) → cond t (Some x) (numbered n rows) ≡ Some r → bookings (cond t (v ∷ rows) (x ∷ replaced n (v ∷ []) rows)) ≡ x.booking ∷ bookings rows
      go true rest q = ap (λ y. y ∷ bookings rows) (b ∙ ap (λ y. y.booking) (sym (some_is x r q)))
      go false rest q = ap (λ bs. x.booking ∷ bs) (rest q)

  pub numbers_more : (low high next : ℕ) (rows : List (Row L)) (r : Row L) → high ≤ r.number → r.number < next → Numbered low high rows → Numbered low next (rows ++ (r ∷ []))
  numbers_more low high next [] r l u h = (omega arith, omega arith)
  numbers_more low high next (x ∷ rows) r l u h = (h.0, numbers_more (suc x.number) high next rows r l u h.1)

  lowered : (low high next : ℕ) (rows : List (Row L)) → low ≤ high → Numbered high next rows → Numbered low next rows
  lowered low high next [] l h = omega arith
  lowered low high next (x ∷ rows) l h = (omega (arith, h.0), h.1)

  pub numbers_without : (low next n : ℕ) (rows : List (Row L)) → Numbered low next rows → Numbered low next (replaced n [] rows)
  numbers_without low next n [] h = h
  numbers_without low next n (x ∷ rows) h = go (eqb x.number n) (numbers_without (suc x.number) next n rows h.1)
    where
      go : (t : Bool) → Numbered (suc x.number) next (replaced n [] rows) → Numbered low next (cond t rows (x ∷ replaced n [] rows))
      go true rest = lowered low (suc x.number) next rows (omega (arith, h.0)) h.1
      go false rest = (h.0, rest)

  pub numbers_with : (low next n : ℕ) (rows : List (Row L)) (r v : Row L) → v.number ≡ r.number → numbered n rows ≡ Some r → Numbered low next rows → Numbered low next (replaced n (v ∷ []) rows)
  numbers_with low next n [] r v s e h = h
  numbers_with low next n (x ∷ rows) r v s e h = go (eqb x.number n) (λ q. numbers_with (suc x.number) next n rows r v s q h.1) e
    where
      go : (t : Bool) → (numbered n rows ≡ Some r → Numbered (suc x.number) next (replaced n (v ∷ []) rows)) → cond t (Some x) (numbered n rows) ≡ Some r → Numbered low next (cond t (v ∷ rows) (x ∷ replaced n (v ∷ []) rows))
      go true rest q = let p : v.number ≡ x.number = s ∙ ap (λ y. y.number) (sym (some_is x r q)) in (omega (arith, h.0), subst (λ y. Numbered (suc y) next rows) (sym p) h.1)
      go false rest q = (h.0, rest q)

  pub fewer : (n : ℕ) (rows : List (Row L)) → length (replaced n [] rows) ≤ length rows
  fewer n [] = omega arith
  fewer n (x ∷ rows) = go (eqb x.number n) (fewer n rows)
    where
      go : (t : Bool) → length (replaced n [] rows) ≤ length rows → length (cond t rows (x ∷ replaced n [] rows)) ≤ suc (length rows)
      go true l = omega arith
      go false l = omega arith

  pub as_many : (n : ℕ) (rows : List (Row L)) (v : Row L) → length (replaced n (v ∷ []) rows) ≡ length rows
  as_many n [] v = refl
  as_many n (x ∷ rows) v = go (eqb x.number n) (as_many n rows v)
    where
      go : (t : Bool) → length (replaced n (v ∷ []) rows) ≡ length rows → length (cond t (v ∷ rows) (x ∷ replaced n (v ∷ []) rows)) ≡ suc (length rows)
      go true e = refl
      go false e = ap suc e

  -- the number says which row
  not_low : (low next : ℕ) (rows : List (Row L)) → Numbered low next rows → (r : Row L) → In r rows → low ≤ r.number
  not_low low next [] h r i = absurd i
  not_low low next (x ∷ rows) h r (inl e) = omega (arith, h.0, ap (λ v. v.number) e)
  not_low low next (x ∷ rows) h r (inr i) = omega (arith, h.0, not_low (suc x.number) next rows h.1 r i)

  pub numbered_is : (low next : ℕ) (rows : List (Row L)) → Numbered low next rows → (r : Row L) → In r rows → numbered r.number rows ≡ Some r
  numbered_is low next [] h r i = absurd i
  numbered_is low next (x ∷ rows) h r (inl e) = rw (eq-eqb x.number r.number (ap (λ v. v.number) (sym e))) (ap (λ v. Some v) (sym e))
  numbered_is low next (x ∷ rows) h r (inr i) =
      let l = not_low (suc x.number) next rows h.1 r i in
      rw (ne_eqb x.number r.number (λ e. omega arith)) (numbered_is (suc x.number) next rows h.1 r i)

  pub numbered_none : (n : ℕ) (rows : List (Row L)) → ((r : Row L) → In r rows → r.number ≡ n → ⊥) → numbered n rows ≡ None
  numbered_none n [] h = refl
  numbered_none n (x ∷ rows) h = rw (ne_eqb x.number n (h x (inl refl))) (numbered_none n rows (λ r i. h r (inr i)))
