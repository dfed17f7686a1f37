use Rattle.std.proofs.Common.{◌+◌, ◌<◌, ◌≤◌, ltb, leb, List, length, drop, sym, refl, subst, ◌∙◌, arith}
use Rattle.std.proofs.lemmas.Bool.{lt-ltb, le-leb, lt-leb, cond-true, cond-false}
use Rattle.lent.proofs.Refills.{items_length, kept}
use Rattle.slots.specs.SlotLists.{records}
use Rattle.slots.specs.Steps.{lacks, Found}
use Rattle.slots.specs.declared.slot.Slot.{Slot}
use Rattle.slots.proofs.Spots.{start_lacks, end_lacks}
use Rattle.slots.proofs.Whole.{refilled_new, canonical_new}
use Rattle.slots.proofs.list.SlotList.change.Goals as goal

pub returns-then-span-clause-list : goal.returns-then-span-clause-list
returns-then-span-clause-list g c = record { lent_is = kept c.args.self.now.lent; floor_is = refl }

pub returns-then-spare-lacks-clause-answer : goal.returns-then-spare-lacks-clause-answer
returns-then-spare-lacks-clause-answer g c =
    let was = c.args.self.now in
    let from = c.args.span.from in
    let until = c.args.span.until in
    let xs = records was in
    let ends = c.ends_of-ends.result in
    let span : from < until = omega (arith, c.if-span.false) in
    let a = subst (λ (ys : List (Slot g.row.V.Denot)). Found from was.floor ys ends.start) c.records.ensures c.ends_of-ends.ensures.start in
    let b = subst (λ (ys : List (Slot g.row.V.Denot)). Found until ends.start.before (drop ends.start.place ys) ends.end) c.records.ensures c.ends_of-ends.ensures.end in
    let wants = length xs + (lacks from xs + lacks until xs) in
    let more : was.lent.room < wants = omega (arith, c.if-spare-lacks.true, c.spare.ensures, c.lacks.ensures, c.lacks-2.ensures, start_lacks from until span was.floor xs ends a b, end_lacks from until span was.floor xs ends a b) in
    sym (cond-true (ltb from until) _ _ (lt-ltb from until span) ∙ cond-false (leb wants was.lent.room) _ _ (lt-leb wants was.lent.room more))

pub returns-then-spare-lacks-clause-list : goal.returns-then-spare-lacks-clause-list
returns-then-spare-lacks-clause-list g c = record { lent_is = kept c.args.self.now.lent; floor_is = refl }

pub invariant_of-self : goal.invariant_of-self
invariant_of-self g c =
    let was = c.args.self.now in
    let ends = c.ends_of-ends.result in
    let a = subst (λ (ys : List (Slot g.row.V.Denot)). Found c.args.span.from was.floor ys ends.start) c.records.ensures c.ends_of-ends.ensures.start in
    let b = subst (λ (ys : List (Slot g.row.V.Denot)). Found c.args.span.until ends.start.before (drop ends.start.place ys) ends.end) c.records.ensures c.ends_of-ends.ensures.end in
    let minute : c.args.span.from < c.args.span.until = omega (arith, c.if-span.false) in
    let all = refilled_new g.V.Value.alike g.met.V.Value.told g.C.Change.changed was c.args.span c.args.how minute ends a b c.settle.new.lent c.settle.ensures in
    record {
      blank_is = all.blank_is ∙ was.blank_is;
      canonical = canonical_new g.V.Value.alike g.met.V.Value.told g.C.Change.changed was c.args.span c.args.how minute ends a b c.settle.new.lent c.settle.ensures;
    }

pub returns-clause-answer : goal.returns-clause-answer
returns-clause-answer g c =
    let was = c.args.self.now in
    let from = c.args.span.from in
    let until = c.args.span.until in
    let xs = records was in
    let ends = c.ends_of-ends.result in
    let span : from < until = omega (arith, c.if-span.false) in
    let a = subst (λ (ys : List (Slot g.row.V.Denot)). Found from was.floor ys ends.start) c.records.ensures c.ends_of-ends.ensures.start in
    let b = subst (λ (ys : List (Slot g.row.V.Denot)). Found until ends.start.before (drop ends.start.place ys) ends.end) c.records.ensures c.ends_of-ends.ensures.end in
    let wants = length xs + (lacks from xs + lacks until xs) in
    let room : wants ≤ was.lent.room = omega (arith, items_length was.lent, was.lent.laid_out.used_fits, c.if-spare-lacks.false, c.spare.ensures, c.lacks.ensures, c.lacks-2.ensures, start_lacks from until span was.floor xs ends a b, end_lacks from until span was.floor xs ends a b) in
    sym (cond-true (ltb from until) _ _ (lt-ltb from until span) ∙ cond-true (leb wants was.lent.room) _ _ (le-leb wants was.lent.room room))

pub returns-clause-list : goal.returns-clause-list
returns-clause-list g c =
    let was = c.args.self.now in
    let ends = c.ends_of-ends.result in
    let a = subst (λ (ys : List (Slot g.row.V.Denot)). Found c.args.span.from was.floor ys ends.start) c.records.ensures c.ends_of-ends.ensures.start in
    let b = subst (λ (ys : List (Slot g.row.V.Denot)). Found c.args.span.until ends.start.before (drop ends.start.place ys) ends.end) c.records.ensures c.ends_of-ends.ensures.end in
    let minute : c.args.span.from < c.args.span.until = omega (arith, c.if-span.false) in
    record {
      lent_is = refilled_new g.V.Value.alike g.met.V.Value.told g.C.Change.changed was c.args.span c.args.how minute ends a b c.settle.new.lent c.settle.ensures;
      floor_is = refl;
    }
