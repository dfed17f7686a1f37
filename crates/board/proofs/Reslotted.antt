-- A board's slot list after a change over a span for which there is room. Assumes nothing.
use Rattle.std.proofs.Common.{◌≡◌, ℕ, ◌+◌, ◌<◌, ◌≤◌, Bool, ltb, leb, length, Ok, Result, is_ok, if◌then◌else◌, Decides, refl, ap, subst, ◌∙◌}
use Rattle.std.proofs.lemmas.Bool.{le-leb, lt-ltb, cond-true}
use Rattle.lent.proofs.Refills.{kept}
use Rattle.slots.specs.Stepped.{edited}
use Rattle.slots.specs.Steps.{lacks}
use Rattle.slots.specs.SlotLists.{records, change_answer, Rewritten}
use Rattle.slots.specs.declared.list.SlotList.{SlotList}
use Rattle.slots.specs.declared.list.Unchanged.{Unchanged}
use Rattle.slots.proofs.Edited.{edited_by_any}
use Rattle.units.specs.Kinds.{Kind, Laws}
use Rattle.bookings.proofs.Lists.{same_told}

module _ {L : Type 0} (k : Kind L) (c : ℕ) (laws : Laws k c) (same : L → L → Bool) (told : (a b : L) → Decides (same a b) (a ≡ b)) (was : SlotList L) (floor_is : was.floor ≡ k.nothing) (f : L → L) (from until : ℕ) (span : from < until)
    (enough : length (records was) + (lacks from (records was) + lacks until (records was)) ≤ was.lent.room) (r : Result (Unit {0}) Unchanged) (is : SlotList L) (answer : r ≡ change_answer from until was.lent.room (records was))
    (list : Rewritten was (if is_ok r then edited same f from until was.floor (records was) else records was) is) where
  done : r ≡ Ok tt
  done = answer ∙ cond-true (ltb from until) _ _ (lt-ltb from until span) ∙ cond-true (leb (length (records was) + (lacks from (records was) + lacks until (records was))) was.lent.room) _ _ (le-leb _ _ enough)

  pub reslotted : Rewritten was (edited k.same f from until k.nothing (records was)) is
  reslotted =
      subst (λ ys. Rewritten was ys is) (edited_by_any same told f from until was.floor (records was) k.same (same_told k c laws) ∙ ap (λ v. edited k.same f from until v (records was)) floor_is)
      (subst (λ (q : Result (Unit {0}) Unchanged). Rewritten was (if is_ok q then edited same f from until was.floor (records was) else records was) is) done list)

-- one that is not changed
pub same_list : {L : Type 0} (was : SlotList L) → Rewritten was (records was) was
same_list was = record { lent_is = kept was.lent; floor_is = refl }
