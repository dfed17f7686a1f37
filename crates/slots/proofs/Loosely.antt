-- A loose list that is tidy, and what a change of its front leaves. Assumes nothing.
use Rattle.std.proofs.Common.{◌≡◌, ℕ, ◌+◌, ◌-◌, ◌<◌, ◌≤◌, min, Bool, List, [], ◌∷◌, ◌++◌, length, take, drop, replicate, Decides, Bor, sym, refl, ap, ap₂, subst, ◌∙◌, arith}
use Rattle.std.proofs.lemmas.List.{length-take-le, length-append, length-replicate, drop_at, append_assoc}
use Rattle.lent.specs.Memory.{laid}
use Rattle.lent.specs.Lists.{items, Refilled}
use Rattle.lent.specs.declared.lent.Lent.{Lent}
use Rattle.lent.proofs.Blanks.{laid_now, laid_over}
use Rattle.lent.proofs.Refills.{items_are}
use Rattle.slots.specs.Loose.{records, Tidy, Rewritten}
use Rattle.slots.specs.Stepped.{slot_of, edited}
use Rattle.slots.specs.Steps.{changed_from, both_in, Found}
use Rattle.slots.specs.declared.loose.LooseList.{LooseList}
use Rattle.slots.specs.declared.reads.Ends.{Ends}
use Rattle.slots.specs.declared.slot.Slot.{Slot}
use Rattle.slots.specs.declared.span.Span.{Span}
use Rattle.slots.proofs.Whole.{settled_new, settled_list}

module _ {V : Type 0} (was : LooseList V) (t : Tidy was) where
  abbrev memory : List (Slot V)
  memory = was.slots.now

  abbrev blank : Slot V
  blank = slot_of 0 was.floor

  -- nothing is changed
  pub kept_tidy : Rewritten was (records was) was
  kept_tidy = record {
    used_is = sym (length-take-le was.used memory (omega (arith, t.laid_out.used_fits, t.laid_out.room_fits)));
    room_is = refl;
    floor_is = refl;
    memory_is = laid_now blank was.used was.room memory t.laid_out;
  }

  -- the list is taken over in a room of its own, refilled there, and taken back
  pub refit : (own : ℕ) (l0 l1 : Lent (Slot V)) (xs : List (Slot V)) → was.used ≤ own → own ≤ was.room → l0.room ≡ own → l0.blank ≡ blank → l0.memory.now ≡ laid blank own (records was) memory → Refilled l0 xs l1
      → l1.memory.now ≡ laid blank was.room xs memory
  refit own l0 l1 xs u k room_is blank_is made r =
      let few : length xs ≤ own = omega (arith, l1.laid_out.used_fits, r.used_is, r.room_is, room_is) in
      let front = records was ++ replicate (own - length (records was)) blank in
      let count : length (records was) ≡ was.used = length-take-le was.used memory (omega (arith, t.laid_out.used_fits, t.laid_out.room_fits)) in
      let long : length front ≡ own = simp (length-append, length-replicate) (omega (arith, count)) in
      let behind : drop own l0.memory.now ≡ drop own memory =
      ap (drop own) (made ∙ sym (append_assoc (records was) (replicate (own - length (records was)) blank) (drop own memory))) ∙ drop_at front (drop own memory) own long in
      r.memory_is ∙ ap₂ (λ b (n : ℕ). laid b n xs l0.memory.now) blank_is room_is
      ∙ ap (λ zs. xs ++ (replicate (own - length xs) blank ++ zs)) behind
      ∙ laid_over blank was.used was.room memory t.laid_out own xs few u k

-- the records, with those of the span's ends, taken over as a list of their own and settled
module _ {V C : Type 0} (same : V → V → Bool) (told : (a b : V) → Decides (same a b) (a ≡ b)) (changed : C → V → V)
    (was : LooseList V) (t : Tidy was) (span : Span) (how : Bor C) (minute : span.from < span.until) (ends : Ends V)
    (a : Found span.from was.floor (records was) ends.start) (b : Found span.until ends.start.before (drop ends.start.place (records was)) ends.end)
    (own : ℕ) (memory : List (Slot V)) (l0 l1 : Lent (Slot V)) (e : memory ≡ was.slots.now) (u : was.used ≤ own) (k : own ≤ was.room)
    (room_is : l0.room ≡ min own (length memory)) (blank_is : l0.blank ≡ slot_of 0 was.floor)
    (items_is : items l0 ≡ take (min was.used l0.room) memory)
    (memory_is : l0.memory.now ≡ laid (slot_of 0 was.floor) l0.room (take (min was.used l0.room) memory) memory)
    (r : Refilled l0 (settled_list same changed l0 span how ends) l1) where
  abbrev new : List (Slot V)
  new = edited same (changed how.now) span.from span.until was.floor (records was)

  room_own : l0.room ≡ own
  room_own = omega (arith, room_is, ap length e, t.laid_out.room_fits, k)

  used_in : min was.used l0.room ≡ was.used
  used_in = omega (arith, room_own, u)

  first : take (min was.used l0.room) memory ≡ records was
  first = ap₂ (λ (n : ℕ) ys. take n ys) used_in e

  made : l0.memory.now ≡ laid (slot_of 0 was.floor) own (records was) was.slots.now
  made = memory_is ∙ ap (λ (n : ℕ). laid (slot_of 0 was.floor) n (take (min was.used l0.room) memory) memory) room_own ∙ ap₂ (λ xs ys. laid (slot_of 0 was.floor) own xs ys) first e

  done : Refilled l0 new l1
  done =
      subst (λ ys. Refilled l0 ys l1)
      (ap (λ ys. changed_from same (changed how.now) span.from span.until ends.start.place ends.start.before (both_in ends ys)) (items_is ∙ first)
      ∙ settled_new same told (changed how.now) span.from span.until minute was.floor (records was) t.canonical ends a b)
      r

  pub new_records : items l1 ≡ new
  new_records = items_are l0 l1 new done

  pub new_memory : l1.memory.now ≡ laid (slot_of 0 was.floor) was.room new was.slots.now
  new_memory = refit was t own l0 l1 new u k room_own blank_is made done
