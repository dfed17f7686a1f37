-- What stands in a list that was filtered, joined or mapped. Assumes nothing.
use Rattle.std.proofs.Common.{◌≡◌, ℕ, Bool, true, false, cond, ◌⊎◌, List, [], ◌∷◌, ◌++◌, map, filter, sym, refl, ap, ◌∙◌, inl, inr}
use Rattle.std.proofs.lemmas.Bool.{cases_eq}
use Rattle.slots.specs.Lists.{In}

module _ {A : Type 0} where
  pub in_left : (x : A) (xs ys : List A) → In x xs → In x (xs ++ ys)
  in_left x [] ys h = absurd h
  in_left x (y ∷ xs) ys (inl e) = inl e
  in_left x (y ∷ xs) ys (inr h) = inr (in_left x xs ys h)

  -- of a filter, by its answer at the head
  in_cond : (b : Bool) (x y : A) (ys : List A) → In x ys → In x (cond b (y ∷ ys) ys)
  in_cond true x y ys h = inr h
  in_cond false x y ys h = h

  pub in_kept : (test : A → Bool) (x : A) (xs : List A) → In x xs → test x ≡ true → In x (filter test xs)
  in_kept test x [] h t = absurd h
  in_kept test x (y ∷ xs) (inl e) t = let u : test y ≡ true = ap test (sym e) ∙ t in rw u (inl e)
  in_kept test x (y ∷ xs) (inr h) t = in_cond (test y) x y (filter test xs) (in_kept test x xs h t)

  pub kept_in : (test : A → Bool) (x : A) (xs : List A) → In x (filter test xs) → In x xs × (test x ≡ true)
  kept_in test x [] h = absurd h
  kept_in test x (y ∷ xs) h = go (kept_in test x xs) (test y) refl h
    where
      go : (In x (filter test xs) → In x xs × (test x ≡ true)) → (b : Bool) → test y ≡ b → In x (cond b (y ∷ filter test xs) (filter test xs)) → In x (y ∷ xs) × (test x ≡ true)
      go rest true t (inl e) = (inl e, ap test e ∙ t)
      go rest true t (inr i) = (inr (rest i).0, (rest i).1)
      go rest false t i = (inr (rest i).0, (rest i).1)

pub dec_in : (x : ℕ) (xs : List ℕ) → In x xs ⊎ (In x xs → ⊥)
dec_in x [] = inr (λ h. h)
dec_in x (y ∷ xs) =
    elim (cases_eq x y) [
      | inl e ↦ inl (inl e)
      | inr n ↦ elim (dec_in x xs) [ inl h ↦ inl (inr h) | inr o ↦ inr (elim [ inl e ↦ n e | inr h ↦ o h ]) ]
    ]

module _ {A B : Type 0} where
  pub in_map : (f : A → B) (x : A) (xs : List A) → In x xs → In (f x) (map f xs)
  in_map f x [] i = absurd i
  in_map f x (y ∷ xs) (inl e) = inl (ap f e)
  in_map f x (y ∷ xs) (inr i) = inr (in_map f x xs i)

  pub map_in : (f : A → B) (y : B) (xs : List A) → In y (map f xs) → (x : A) × In x xs × (y ≡ f x)
  map_in f y [] i = absurd i
  map_in f y (x ∷ xs) (inl e) = (x, inl refl, e)
  map_in f y (x ∷ xs) (inr i) = let r = map_in f y xs i in (r.0, inr r.1, r.2)
