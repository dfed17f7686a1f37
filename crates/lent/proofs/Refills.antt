-- A list in lent memory whose front is written anew. Assumes nothing.
use Rattle.std.proofs.Common.{◌≡◌, ℕ, suc, ◌+◌, ◌-◌, ◌<◌, ◌≤◌, min, List, [], ◌∷◌, ◌++◌, length, take, drop, replicate, set, sym, refl, ap, ◌∙◌, ap₂, inl, inr, arith}
use Rattle.std.proofs.lemmas.List.{length-replicate, drop_at, append_assoc, append-nil, length-append, length-take, length-take-le, length-drop, length-set, take_all, drop_all, take-append-drop, set-append_left, take-take}
use Rattle.std.proofs.lemmas.Bool.{cases_lt}
use Rattle.std.proofs.lemmas.List.Edits.{length-remove}
use Rattle.std.specs.List.{insert, remove}
use Rattle.lent.specs.Memory.{Laid, laid}
use Rattle.lent.specs.Lists.{items, Refilled}
use Rattle.lent.specs.declared.lent.Lent.{Lent}
use Rattle.lent.proofs.Blanks.{laid_is, laid_holds, laid_now, laid_over}

module _ {T : Type 0} (was : Lent T) where
  abbrev memory : List T
  memory = was.memory.now

  pub items_length : length (items was) ≡ was.used
  items_length = length-take-le was.used memory (omega (arith, was.laid_out.used_fits, was.laid_out.room_fits))

  -- the first n elements are written anew: the items xs, and blanks behind them
  module _ (n : ℕ) (xs ys : List T) (all : was.used ≤ n) (room : n ≤ was.room) (few : length xs ≤ n) (made : ys ≡ xs ++ replicate (n - length xs) was.blank) where
    pub refilled : ys ++ drop n memory ≡ laid was.blank was.room xs memory
    refilled =
        ap (λ (zs : List T). zs ++ drop n memory) made ∙ append_assoc xs (replicate (n - length xs) was.blank) (drop n memory)
        ∙ laid_over was.blank was.used was.room memory was.laid_out n xs few all room

    pub laid_anew : Laid was.blank (length xs) was.room (ys ++ drop n memory)
    laid_anew = rw refilled (laid_is was.blank was.room xs memory (omega arith) was.laid_out.room_fits)

    pub laid_with : (k : ℕ) → k ≡ length xs → Laid was.blank k was.room (ys ++ drop n memory)
    laid_with k e = rw e laid_anew

  -- nothing is changed
  pub kept : Refilled was (items was) was
  kept = record {
    used_is = sym items_length;
    room_is = refl;
    blank_is = refl;
    memory_is = laid_now was.blank was.used was.room memory was.laid_out;
    lent_is = refl;
  }

  pub as_it_was : (xs : List T) → xs ≡ items was → Refilled was xs was
  as_it_was xs e = rw e kept

module _ {T : Type 0} where
  -- no blank where nothing is left over
  pub no_blanks : (n : ℕ) (xs : List T) (blank : T) → n ≡ length xs → xs ≡ xs ++ replicate (n - length xs) blank
  no_blanks n xs blank e = let none : n - length xs ≡ 0 = omega arith in sym (append-nil xs) ∙ ap (λ (k : ℕ). xs ++ replicate k blank) (sym none)

  pub one_blank : (n : ℕ) (xs : List T) (blank : T) → n ≡ length xs + 1 → xs ++ blank ∷ [] ≡ xs ++ replicate (n - length xs) blank
  one_blank n xs blank e = let one : n - length xs ≡ 1 = omega arith in ap (λ (k : ℕ). xs ++ replicate k blank) (sym one)

  pub length_inserted : (xs : List T) (i : ℕ) (x : T) → length (insert xs i x) ≡ length xs + 1
  length_inserted xs i x = let a = length-take i xs in let b = length-drop i xs in let c = length-append (take i xs) (x ∷ drop i xs) in omega arith

  -- what stands behind the last is at the end
  pub insert_within : (xs : List T) (n i : ℕ) (x : T) → n ≡ length xs → insert xs (min i n) x ≡ insert xs i x
  insert_within xs n i x e =
      elim (cases_lt i n) [
        | inl l ↦ let m : min i n ≡ i = omega arith in ap (λ (k : ℕ). insert xs k x) m
        | inr l ↦
            let m : min i n ≡ length xs = omega arith in
            let a : length xs ≤ i = omega arith in
            ap (λ (k : ℕ). insert xs k x) m ∙ ap₂ (λ (p q : List T). p ++ x ∷ q) (take_all (length xs) xs (omega arith) ∙ sym (take_all i xs a)) (drop_all (length xs) xs (omega arith) ∙ sym (drop_all i xs a))
      ]

  pub remove_past : (xs : List T) (i : ℕ) → length xs ≤ i → remove xs i ≡ xs
  remove_past xs i l = ap₂ (λ (p q : List T). p ++ q) (take_all i xs l) (drop_all (suc i) xs (omega arith)) ∙ append-nil xs

  pub part_within : (xs : List T) (n i : ℕ) → n ≡ length xs → (take (min i n) xs ≡ take i xs) × (drop (min i n) xs ≡ drop i xs)
  part_within xs n i e =
      elim (cases_lt i n) [
        | inl l ↦ let m : min i n ≡ i = omega arith in (ap (λ (k : ℕ). take k xs) m, ap (λ (k : ℕ). drop k xs) m)
        | inr l ↦
            let m : min i n ≡ length xs = omega arith in
            let a : length xs ≤ i = omega arith in
            (ap (λ (k : ℕ). take k xs) m ∙ take_all (length xs) xs (omega arith) ∙ sym (take_all i xs a), ap (λ (k : ℕ). drop k xs) m ∙ drop_all (length xs) xs (omega arith) ∙ sym (drop_all i xs a))
      ]

-- what each change writes over the front
pub removed : {T : Type 0} (was : Lent T) (i : ℕ) (ys : List T) → i < was.used → ys ≡ remove (take was.used was.memory.now) i ++ was.blank ∷ []
    → ys ≡ remove (items was) i ++ replicate (was.used - length (remove (items was) i)) was.blank
removed was i ys l made = made ∙ one_blank was.used (remove (items was) i) was.blank (omega (arith, items_length was, length-remove (items was) i (omega (arith, items_length was))))

module _ {T : Type 0} (was : Lent T) (i : ℕ) (x : T) where
  pub inserted : (ys : List T) (j : ℕ) → was.used < was.room → j ≡ min i was.used → ys ≡ insert (take (length (take (was.used + 1) was.memory.now) - 1) (take (was.used + 1) was.memory.now)) j x
      → ys ≡ insert (items was) i x ++ replicate (was.used + 1 - length (insert (items was) i x)) was.blank
  inserted ys j spare at made =
      let fits = was.laid_out.room_fits in
      let front : length (take (was.used + 1) was.memory.now) - 1 ≡ was.used = simp length-take (omega arith) in
      made ∙ ap₂ (λ (k : ℕ) (n : ℕ). insert (take n (take (was.used + 1) was.memory.now)) k x) at front
      ∙ ap (λ (zs : List T). insert zs (min i was.used) x) (take-take was.used (was.used + 1) was.memory.now (omega arith))
      ∙ insert_within (items was) was.used i x (sym (items_length was))
      ∙ no_blanks (was.used + 1) (insert (items was) i x) was.blank (omega (arith, length_inserted (items was) i x, items_length was))

  pub replaced : i < was.used → set was.memory.now i x ≡ set (items was) i x ++ drop was.used was.memory.now
  replaced l = ap (λ (zs : List T). set zs i x) (sym (take-append-drop was.used was.memory.now)) ∙ set-append_left (items was) (drop was.used was.memory.now) i x (omega (arith, items_length was))

  pub set_length : length (set (items was) i x) ≡ was.used
  set_length = length-set (items was) i x ∙ items_length was

-- the items of a list that is refilled, and one that is refilled twice
module _ {T : Type 0} (was is : Lent T) (xs : List T) (r : Refilled was xs is) where
  pub items_are : items is ≡ xs
  items_are = ap₂ (λ (n : ℕ) (zs : List T). take n zs) r.used_is r.memory_is ∙ laid_holds was.blank was.room xs was.memory.now

  pub few_enough : length xs ≤ was.room
  few_enough = omega (arith, is.laid_out.used_fits, r.used_is, r.room_is)

  pub behind_same : drop is.room is.memory.now ≡ drop was.room was.memory.now
  behind_same =
      let own = xs ++ replicate (was.room - length xs) was.blank in
      let fits = few_enough in
      let long : length own ≡ was.room = simp (length-append, length-replicate) (omega arith) in
      ap₂ (λ (n : ℕ) (zs : List T). drop n zs) r.room_is r.memory_is
      ∙ ap (drop was.room) (sym (append_assoc xs (replicate (was.room - length xs) was.blank) (drop was.room was.memory.now))) ∙ drop_at own (drop was.room was.memory.now) was.room long

  pub refilled_again : (then : Lent T) (ys : List T) → Refilled is ys then → Refilled was ys then
  refilled_again then ys q = record {
    used_is = q.used_is;
    room_is = q.room_is ∙ r.room_is;
    blank_is = q.blank_is ∙ r.blank_is;
    memory_is = q.memory_is ∙ ap₂ (λ b (n : ℕ). ys ++ (replicate (n - length ys) b ++ drop is.room is.memory.now)) r.blank_is r.room_is ∙ ap (λ (zs : List T). ys ++ (replicate (was.room - length ys) was.blank ++ zs)) behind_same;
    lent_is = q.lent_is ∙ r.lent_is;
  }
