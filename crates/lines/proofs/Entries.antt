-- What the table does to the ledger's entries is what it does to the board's rows, and what it leaves of them. Assumes nothing.
use Rattle.std.proofs.Common.{◌≡◌, ℕ, suc, ◌<◌, ◌≤◌, Bool, true, false, cond, eqb, ◌⊎◌, List, [], ◌∷◌, ◌++◌, Some, None, sym, refl, ap, ◌∙◌, inl, inr, arith}
use Rattle.std.proofs.lemmas.Bool.{ne_eqb}
use Rattle.slots.specs.Lists.{In}
use Rattle.bookings.specs.Rows.{Numbered, numbered, replaced}
use Rattle.bookings.specs.Table.{Fate, becomes, leaves, barred, fate}
use Rattle.bookings.specs.declared.event.Event.{Event}
use Rattle.bookings.specs.declared.row.Row.{Row}
use Rattle.bookings.proofs.Found.{some_none, some_is}
use Rattle.bookings.proofs.Numbers.{numbered_is}
use Rattle.lines.specs.Ledger.{left_of, treated}

module _ {A : Type 0} where
  pub in_right : (x : A) (xs ys : List A) → In x ys → In x (xs ++ ys)
  in_right x [] ys i = i
  in_right x (y ∷ xs) ys i = inr (in_right x xs ys i)

  pub in_more : (x y : A) (xs : List A) → In x (xs ++ (y ∷ [])) → In x xs ⊎ (x ≡ y)
  in_more x y [] (inl e) = inr e
  in_more x y [] (inr i) = absurd i
  in_more x y (z ∷ xs) (inl e) = inl (inl e)
  in_more x y (z ∷ xs) (inr i) = elim (in_more x y xs i) [ inl j ↦ inl (inr j) | inr e ↦ inr e ]

module _ {L : Type 0} where
  -- THE TABLE, BY WHETHER THE ENTRY AT THE HEAD HAS THE NUMBER

  pub treated_none : (event : Event) (n : ℕ) (rows : List (Row L)) → numbered n rows ≡ None → treated event n rows ≡ rows
  treated_none event n [] e = refl
  treated_none event n (x ∷ rows) e = go (eqb x.number n) (treated_none event n rows) e
    where
      go : (t : Bool) → (numbered n rows ≡ None → treated event n rows ≡ rows) → cond t (Some x) (numbered n rows) ≡ None → cond t (left_of x (fate event x.state) ++ rows) (x ∷ treated event n rows) ≡ x ∷ rows
      go true rest q = absurd (some_none x q)
      go false rest q = ap (λ v. x ∷ v) (rest q)

  pub treated_some : (event : Event) (n : ℕ) (rows : List (Row L)) (r : Row L) → numbered n rows ≡ Some r → treated event n rows ≡ replaced n (left_of r (fate event r.state)) rows
  treated_some event n [] r e = refl
  treated_some event n (x ∷ rows) r e = go (eqb x.number n) (treated_some event n rows r) e
    where
      go : (t : Bool) → (numbered n rows ≡ Some r → treated event n rows ≡ replaced n (left_of r (fate event r.state)) rows) → cond t (Some x) (numbered n rows) ≡ Some r → cond t (left_of x (fate event x.state) ++ rows) (x ∷ treated event n rows) ≡ cond t (left_of r (fate event r.state) ++ rows) (x ∷ replaced n (left_of r (fate event r.state)) rows)
      go true rest q = ap (λ v. left_of v (fate event v.state) ++ rows) (some_is x r q)
      go false rest q = ap (λ v. x ∷ v) (rest q)

  pub put_back : (n : ℕ) (rows : List (Row L)) (r : Row L) → numbered n rows ≡ Some r → replaced n (r ∷ []) rows ≡ rows
  put_back n [] r e = refl
  put_back n (x ∷ rows) r e = go (eqb x.number n) (put_back n rows r) e
    where
      go : (t : Bool) → (numbered n rows ≡ Some r → replaced n (r ∷ []) rows ≡ rows) → cond t (Some x) (numbered n rows) ≡ Some r → cond t (r ∷ rows) (x ∷ replaced n (r ∷ []) rows) ≡ x ∷ rows
      go true rest q = ap (λ v. v ∷ rows) (sym (some_is x r q))
      go false rest q = ap (λ v. x ∷ v) (rest q)

  -- an entry of another number is left as it was
  pub others_left : (event : Event) (n : ℕ) (rows : List (Row L)) (r : Row L) → In r rows → (n ≡ r.number → ⊥) → In r (treated event n rows)
  others_left event n [] r i other = absurd i
  others_left event n (x ∷ rows) r (inl e) other = rw (ne_eqb x.number n (λ q. other (sym q ∙ ap (λ v. v.number) (sym e)))) (inl e)
  others_left event n (x ∷ rows) r (inr i) other = go (eqb x.number n) (others_left event n rows r i other)
    where
      go : (t : Bool) → In r (treated event n rows) → In r (cond t (left_of x (fate event x.state) ++ rows) (x ∷ treated event n rows))
      go true rest = in_right r (left_of x (fate event x.state)) rows i
      go false rest = inr rest

  -- the entry has the number and the booking of one of these
  abbrev pub CameFrom : List (Row L) → Row L → Type 0
  CameFrom rows s = (r : Row L) × In r rows × (s.number ≡ r.number) × (s.booking ≡ r.booking)

  pub came_from : (event : Event) (n : ℕ) (rows : List (Row L)) (s : Row L) → In s (treated event n rows) → CameFrom rows s
  came_from event n [] s i = absurd i
  came_from event n (x ∷ rows) s i = go (eqb x.number n) (fate event x.state) (came_from event n rows s) i
    where
      go : (t : Bool) (f : Fate) → (In s (treated event n rows) → CameFrom rows s) → In s (cond t (left_of x f ++ rows) (x ∷ treated event n rows)) → CameFrom (x ∷ rows) s
      go true (becomes v) rest (inl e) = (x, inl refl, ap (λ r. r.number) e, ap (λ r. r.booking) e)
      go true (becomes v) rest (inr j) = (s, inr j, refl, refl)
      go true leaves rest j = (s, inr j, refl, refl)
      go true barred rest (inl e) = (x, inl refl, ap (λ r. r.number) e, ap (λ r. r.booking) e)
      go true barred rest (inr j) = (s, inr j, refl, refl)
      go false f rest (inl e) = (x, inl refl, ap (λ r. r.number) e, ap (λ r. r.booking) e)
      go false f rest (inr j) = let c = rest j in (c.0, inr c.1, c.2, c.3)

  -- THE NUMBER SAYS WHICH ENTRY

  pub same_entry : (next : ℕ) (rows : List (Row L)) → Numbered 1 next rows → (r s : Row L) → In r rows → In s rows → s.number ≡ r.number → s ≡ r
  same_entry next rows h r s i j e = some_is s r (sym (numbered_is 1 next rows h s j) ∙ ap (λ n. numbered n rows) e ∙ numbered_is 1 next rows h r i)

  not_above : (low next : ℕ) (rows : List (Row L)) → Numbered low next rows → low ≤ next
  not_above low next [] h = h
  not_above low next (x ∷ rows) h = omega (arith, h.0, not_above (suc x.number) next rows h.1)

  pub below_next : (low next : ℕ) (rows : List (Row L)) → Numbered low next rows → (r : Row L) → In r rows → r.number < next
  below_next low next [] h r i = absurd i
  below_next low next (x ∷ rows) h r (inl e) = omega (arith, not_above (suc x.number) next rows h.1, ap (λ v. v.number) e)
  below_next low next (x ∷ rows) h r (inr i) = below_next (suc x.number) next rows h.1 r i
