-- What a minute meets, from the records around it. Assumes nothing.
use Rattle.std.proofs.Common.{◌≡◌, ℕ, suc, ◌-◌, ◌≤◌, true, List, sym, ◌∙◌, subst, ap, ap₂, arith}
use Rattle.units.specs.Kinds.{Kind, Laws}
use Rattle.slots.specs.Stepped.{at, Ascending}
use Rattle.slots.specs.declared.slot.Slot.{Slot}
use Rattle.planning.specs.Search.{joined_over}
use Rattle.planning.specs.Rectangles.{opening_of, closing_of}
use Rattle.planning.specs.Walks.{IsAround}
use Rattle.planning.specs.declared.walk.Around.{Around}
use Rattle.planning.proofs.Splits.{after_rises, at_late, at_soon}
use Rattle.planning.proofs.Covers.{covered, over_same, covers}
use Rattle.planning.proofs.Opens.{quiet, same_open}
use Rattle.planning.proofs.Closes.{first_loud, same_close, closes_is}

module _ {L : Type 0} (k : Kind L) (xs : List (Slot L)) (around : Around L) (is : IsAround k.nothing xs around) where
  abbrev s : ℕ
  s = around.minute

  abbrev load : ℕ → L
  load = at k.nothing xs

  pub rises : Ascending (suc s) around.after.now
  rises = subst (Ascending (suc s)) (sym is.after_is) (after_rises s 0 xs is.ascending)

  late : (n : ℕ) → s ≤ n → at around.here around.after.now n ≡ load n
  late n l = ap₂ (λ v q. at v q n) is.here_is is.after_is ∙ sym (at_late s 0 k.nothing xs is.ascending n l)

  pub opening_is : (over : L) → opening_of k (at k.nothing around.before.now) over s ≡ opening_of k load over s
  opening_is over = same_open k over (at k.nothing around.before.now) load s (λ n l. ap (λ q. at k.nothing q n) is.before_is ∙ sym (at_soon s 0 k.nothing xs is.ascending n (omega arith)))

  pub closing_is : (over : L) (n : ℕ) → closing_of k (at around.here around.after.now) over s n ≡ closing_of k load over s n
  closing_is over n = same_close k over (at around.here around.after.now) load s n late

  pub joined_is : (d : ℕ) → joined_over k (at around.here around.after.now) s d ≡ joined_over k load s d
  joined_is d = over_same k (at around.here around.after.now) load s d late

  -- the records after it, gone over one by one
  pub covered_is : {c : ℕ} (laws : Laws k c) (d : ℕ) → 1 ≤ d → covered k s d around.here around.after.now ≡ joined_over k load s d
  covered_is laws d some = covers k laws s d around.here around.after.now rises some ∙ joined_is d

  pub first_loud_is : (over : L) (h : ℕ) → s ≤ h → quiet k over around.here ≡ true → first_loud k over h around.after.now ≡ closing_of k load over s (h - s)
  first_loud_is over h l q = sym (closes_is k over s h around.here around.after.now rises l q) ∙ closing_is over (h - s)
