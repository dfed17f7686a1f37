-- The spots of a span's two ends are those at which its records are put in. Assumes nothing.
use Rattle.std.proofs.Common.{◌≡◌, ℕ, ◌+◌, ◌<◌, List, [], ◌∷◌, length, take, drop, get_or, None, Some, sym, ap, ◌∙◌, ap₂, arith}
use Rattle.std.specs.List.{slice_get}
use Rattle.std.proofs.lemmas.List.{get_or-drop, length-drop}
use Rattle.std.proofs.lemmas.Option.{slice_get_within, slice_get-get_or, get_or_from_slice_get}
use Rattle.slots.specs.Stepped.{slot_of}
use Rattle.slots.specs.Steps.{place, last_of, wanting, split, lacks, parted, put_in, at_most_one, put_of, both_in, Found}
use Rattle.slots.specs.declared.slot.Slot.{Slot}
use Rattle.slots.specs.declared.reads.Ends.{Ends}
use Rattle.slots.proofs.Lacking.{lacks_still}
use Rattle.slots.proofs.Splits.{wanting_length, wanting_there, wanting_new, split_put, place_on, wanting_on}

module _ {V : Type 0} (from until : ℕ) (l : from < until) (floor : V) (xs : List (Slot V)) (ends : Ends V)
    (a : Found from floor xs ends.start) (b : Found until ends.start.before (drop ends.start.place xs) ends.end) where
  pub start_lacks : length (put_of ends.start) ≡ lacks from xs
  start_lacks = sym (ap length a.wanting_is) ∙ wanting_length from floor xs

  pub before_start : ends.start.before ≡ last_of floor (take (place from xs) xs)
  before_start = a.before_is ∙ ap (λ (i : ℕ). last_of floor (take i xs)) a.place_is

  end_put : put_of ends.end ≡ wanting until floor (split from floor xs)
  end_put = sym b.wanting_is ∙ ap₂ (λ v (i : ℕ). wanting until v (drop i xs)) before_start a.place_is ∙ sym (wanting_on from until l floor xs)

  pub end_lacks : length (put_of ends.end) ≡ lacks until xs
  end_lacks = ap length end_put ∙ wanting_length until floor (split from floor xs) ∙ lacks_still from until floor xs l

  end_place : ends.start.place + length (put_of ends.start) + ends.end.place ≡ place until (split from floor xs)
  end_place = omega (arith, place_on from until l floor xs, start_lacks, a.place_is, b.place_is, ap (λ (i : ℕ). place until (drop i xs)) a.place_is)

  pub both_parted : both_in ends xs ≡ parted from until floor xs
  both_parted =
      let once = ap₂ (λ (i : ℕ) ws. put_in i ws xs) a.place_is (sym a.wanting_is) ∙ split_put from floor xs in
      ap (put_in (ends.start.place + length (put_of ends.start) + ends.end.place) (put_of ends.end)) once
      ∙ ap₂ (λ (i : ℕ) ws. put_in i ws (split from floor xs)) end_place end_put ∙ split_put until floor (split from floor xs)

-- what the first of the records from a minute's place on tells
module _ {V : Type 0} (m : ℕ) (b : V) (xs : List (Slot V)) (i : ℕ) (p : i ≡ place m xs) where
  read : (s : Slot V) → Some s ≡ slice_get (drop i xs) 0 → (i < length xs) × (get_or xs i s ≡ s)
  read s e =
      let on : i + 0 ≡ i = omega arith in
      (omega (arith, slice_get_within (drop i xs) 0 s (sym e), length-drop i xs), ap (λ (k : ℕ). get_or xs k s) (sym on) ∙ sym (get_or-drop i xs 0 s) ∙ get_or_from_slice_get (drop i xs) 0 s s (sym e))

  pub first_there : (s : Slot V) → Some s ≡ slice_get (drop i xs) 0 → s.minute ≡ m → wanting m b xs ≡ []
  first_there s e here = let r = read s e in wanting_there m b xs i s p r.0 (ap (λ t. t.minute) r.1 ∙ here)

  pub first_another : (s : Slot V) → Some s ≡ slice_get (drop i xs) 0 → (s.minute ≡ m → ⊥) → wanting m b xs ≡ slot_of m (last_of b (take i xs)) ∷ []
  first_another s e other = let r = read s e in wanting_new m b xs i s p (λ _ k. other (sym (ap (λ t. t.minute) r.1) ∙ k))

  pub none_there : None ≡ slice_get (drop i xs) 0 → wanting m b xs ≡ slot_of m (last_of b (take i xs)) ∷ []
  none_there e =
      wanting_new m b xs i (slot_of 0 b) p (λ l k. absurd (omega (arith, ap (λ o. length (at_most_one o)) (e ∙ slice_get-get_or (drop i xs) 0 (slot_of 0 b) (omega (arith, l, length-drop i xs))))))
