-- The whole of a change, step by step over the records: it leaves the edited list. Assumes nothing.
use Rattle.std.proofs.Common.{◌≡◌, ℕ, suc, ◌+◌, ◌<◌, Bool, false, List, [], ◌∷◌, map, take, drop, Decides, Bor, length, ◌++◌, sym, refl, ap, subst, ◌∙◌, ap₂, inl, inr, arith}
use Rattle.std.proofs.lemmas.Bool.{cases_order, cases_Bool, cond-false}
use Rattle.lent.specs.Lists.{items, Refilled}
use Rattle.lent.specs.Sifting.{sifted}
use Rattle.lent.specs.declared.lent.Lent.{Lent}
use Rattle.lent.proofs.Refills.{items_are, refilled_again}
use Rattle.slots.specs.Settlings.{left_by, after_by}
use Rattle.slots.specs.SlotLists.{records}
use Rattle.slots.specs.Stepped.{Canonical, edited}
use Rattle.slots.specs.Steps.{place, last_of, split, remade, settled, parted, changed_over, changed_from, put_in, put_of, both_in, Found}
use Rattle.slots.specs.declared.slot.Slot.{Slot}
use Rattle.slots.specs.declared.reads.Ends.{Ends}
use Rattle.slots.specs.declared.list.SlotList.{SlotList}
use Rattle.slots.specs.declared.settling.Settling.{Settling}
use Rattle.slots.specs.declared.span.Span.{Span}
use Rattle.slots.proofs.Edited.{changed_edited, edited_right}
use Rattle.slots.proofs.SiftedAre.{sifted_settled}
use Rattle.slots.proofs.Spots.{before_start, both_parted}
use Rattle.slots.proofs.Spans.{split_after, outside, sooner}
use Rattle.slots.proofs.Splits.{place_after, place_here}
use Rattle.slots.proofs.Unique.{canonical_ascending}

module _ {V : Type 0} (same : V → V → Bool) (told : (a b : V) → Decides (same a b) (a ≡ b)) (f : V → V) (from until : ℕ) (span : from < until) where
  differs : (a b : V) → (a ≡ b → ⊥) → same a b ≡ false
  differs a b o = elim (cases_Bool (same a b)) [ inl e ↦ absurd (o ((told a b).0 e)) | inr e ↦ e ]

  -- the records before the span stay, so it does to begin at its start
  front_kept : (low : ℕ) (b : V) (xs : List (Slot V)) → Canonical low b xs → changed_from same f from until (place from xs) (last_of b (take (place from xs) xs)) (parted from until b xs) ≡ changed_over same f from until b xs
  front_kept low b [] h = refl
  front_kept low b (x ∷ xs) h =
      elim (cases_order x.minute from) [
        | inl e ↦ at_start (place_here from x xs (omega arith))
        | inr (inl k) ↦
            let rest = parted from until x.value xs in
            let made = map (remade f from until) rest in
            let opens : parted from until b (x ∷ xs) ≡ x ∷ rest = ap (split until b) (split_after from b x xs k) ∙ split_after until b x (split from x.value xs) (omega arith) in
            ap₂ (λ (i : ℕ) ys. changed_from same f from until i (last_of b (take i (x ∷ xs))) ys) (place_after from x xs k) opens
            ∙ ap (λ ys. x ∷ ys) (front_kept (suc x.minute) x.value xs h.2)
            ∙ sym (ap (λ ys. settled same b (map (remade f from until) ys)) opens
            ∙ ap (λ y. settled same b (y ∷ made)) (outside f from until x (sooner f from until x.minute k))
            ∙ cond-false (same x.value b) (settled same x.value made) (x ∷ settled same x.value made) (differs x.value b h.1))
        | inr (inr k) ↦ at_start (place_here from x xs (omega arith))
      ]
    where
      at_start : place from (x ∷ xs) ≡ 0 → changed_from same f from until (place from (x ∷ xs)) (last_of b (take (place from (x ∷ xs)) (x ∷ xs))) (parted from until b (x ∷ xs)) ≡ changed_over same f from until b (x ∷ xs)
      at_start p = ap (λ (i : ℕ). changed_from same f from until i (last_of b (take i (x ∷ xs))) (parted from until b (x ∷ xs))) p

  -- so it does where the records of the span's ends were put in
  pub settled_new : (floor : V) (xs : List (Slot V)) → Canonical 0 floor xs → (ends : Ends V) → Found from floor xs ends.start → Found until ends.start.before (drop ends.start.place xs) ends.end
      → changed_from same f from until ends.start.place ends.start.before (both_in ends xs) ≡ edited same f from until floor xs
  settled_new floor xs h ends a b =
      ap (changed_from same f from until ends.start.place ends.start.before) (both_parted from until span floor xs ends a b)
      ∙ ap₂ (λ (i : ℕ) v. changed_from same f from until i v (parted from until floor xs)) a.place_is (before_start from until span floor xs ends a b)
      ∙ front_kept 0 floor xs h
      ∙ changed_edited same told f from until floor xs span (canonical_ascending 0 floor xs h)

-- a list with the records of the span's ends put in one after the other, and once those from the start on are settled
module _ {V C : Type 0} (same : V → V → Bool) (changed : C → V → V) (was : Lent (Slot V)) (span : Span) (how : Bor C) (ends : Ends V) where
  abbrev settling : Settling V C
  settling = record { span = span; how = how; before = ends.start.before }

  abbrev left_over : List (Slot V) → List (Slot V)
  left_over ys = take ends.start.place ys ++ sifted (left_by same changed) (after_by changed) settling (drop ends.start.place ys)

  abbrev pub settled_list : List (Slot V)
  settled_list = changed_from same (changed how.now) span.from span.until ends.start.place ends.start.before (both_in ends (items was))

  pub refilled_settled : (l1 l2 l3 : Lent (Slot V)) (n : ℕ) → n ≡ length (put_of ends.start)
      → Refilled was (put_in ends.start.place (put_of ends.start) (items was)) l1
      → Refilled l1 (put_in (ends.start.place + n + ends.end.place) (put_of ends.end) (items l1)) l2
      → Refilled l2 (left_over (items l2)) l3
      → Refilled was settled_list l3
  refilled_settled l1 l2 l3 n count r1 r2 r3 =
      let twice = items_are l1 l2 _ r2 ∙ ap₂ (λ (k : ℕ) ys. put_in (ends.start.place + k + ends.end.place) (put_of ends.end) ys) count (items_are was l1 _ r1) in
      let made = ap left_over twice ∙ ap (λ ys. take ends.start.place (both_in ends (items was)) ++ ys) (sifted_settled same changed settling (drop ends.start.place (both_in ends (items was)))) in
      subst (λ ys. Refilled was ys l3) made (refilled_again was l2 _ (refilled_again was l1 _ r1 l2 _ r2) l3 _ r3)

-- the list before the change, and once it is settled
module _ {V C : Type 0} (same : V → V → Bool) (told : (a b : V) → Decides (same a b) (a ≡ b)) (changed : C → V → V)
    (was : SlotList V) (span : Span) (how : Bor C) (minute : span.from < span.until) (ends : Ends V)
    (a : Found span.from was.floor (records was) ends.start) (b : Found span.until ends.start.before (drop ends.start.place (records was)) ends.end)
    (l : Lent (Slot V)) (r : Refilled was.lent (settled_list same changed was.lent span how ends) l) where
  abbrev new : List (Slot V)
  new = edited same (changed how.now) span.from span.until was.floor (records was)

  pub refilled_new : Refilled was.lent new l
  refilled_new = subst (λ ys. Refilled was.lent ys l) (settled_new same told (changed how.now) span.from span.until minute was.floor (records was) was.canonical ends a b) r

  pub canonical_new : Canonical 0 was.floor (items l)
  canonical_new = subst (Canonical 0 was.floor) (sym (items_are was.lent l new refilled_new)) (edited_right same told (changed how.now) span.from span.until was.floor (records was)).0
