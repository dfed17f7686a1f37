use Rattle.std.proofs.Common.{◌+◌, ◌-◌, ◌<◌, ◌≤◌, ltb, leb, List, length, drop, sym, refl, ap, subst, ◌∙◌, arith}
use Rattle.std.proofs.lemmas.List.{length-take-le}
use Rattle.std.proofs.lemmas.Bool.{and_right, and_from, lt-ltb, le-leb, lt-leb}
use Rattle.slots.specs.Loose.{records}
use Rattle.slots.specs.Steps.{lacks, put_of, Found}
use Rattle.slots.specs.declared.slot.Slot.{Slot}
use Rattle.slots.specs.declared.span.Span.{Span}
use Rattle.slots.proofs.Loosely.{kept_tidy, new_records, new_memory}
use Rattle.slots.proofs.Spots.{start_lacks, end_lacks}
use Rattle.slots.proofs.loose.LooseList.change.Goals as goal

pub returns-then-self-clause-list : goal.returns-then-self-clause-list
returns-then-self-clause-list g c = kept_tidy c.args.self.now

pub returns-then-self-more-clause-answer : goal.returns-then-self-more-clause-answer
returns-then-self-more-clause-answer g c =
    let was = c.args.self.now in
    let from = c.args.from in
    let until = c.args.until in
    let xs = records was in
    let ends = c.ends_of-ends.result in
    let span = c.if-from-until.false in
    let a = subst (λ (ys : List (Slot g.row.V.Denot)). Found from was.floor ys ends.start) c.records.ensures c.ends_of-ends.ensures.start in
    let b = subst (λ (ys : List (Slot g.row.V.Denot)). Found until ends.start.before (drop ends.start.place ys) ends.end) c.records.ensures c.ends_of-ends.ensures.end in
    let wants = length xs + (lacks from xs + lacks until xs) in
    let long = length-take-le was.used was.slots.now (omega (arith, c.if-self.false, c.if-self-2.false)) in
    let more : was.room < wants = omega (arith, long, c.if-self-more.true, c.lacks.ensures, c.lacks-2.ensures, start_lacks from until span was.floor xs ends a b, end_lacks from until span was.floor xs ends a b) in
    λ t. sym (and_right (ltb from until) (leb wants was.room) (lt-leb wants was.room more))

pub returns-then-self-more-clause-list : goal.returns-then-self-more-clause-list
returns-then-self-more-clause-list g c = kept_tidy c.args.self.now

pub returns-clause-answer : goal.returns-clause-answer
returns-clause-answer g c =
    let was = c.args.self.now in
    let from = c.args.from in
    let until = c.args.until in
    let xs = records was in
    let ends = c.ends_of-ends.result in
    let span = c.if-from-until.false in
    let a = subst (λ (ys : List (Slot g.row.V.Denot)). Found from was.floor ys ends.start) c.records.ensures c.ends_of-ends.ensures.start in
    let b = subst (λ (ys : List (Slot g.row.V.Denot)). Found until ends.start.before (drop ends.start.place ys) ends.end) c.records.ensures c.ends_of-ends.ensures.end in
    let wants = length xs + (lacks from xs + lacks until xs) in
    let long = length-take-le was.used was.slots.now (omega (arith, c.if-self.false, c.if-self-2.false)) in
    let room : wants ≤ was.room = omega (arith, long, c.if-self.false, c.if-self-more.false, c.lacks.ensures, c.lacks-2.ensures, start_lacks from until span was.floor xs ends a b, end_lacks from until span was.floor xs ends a b) in
    λ t. sym (and_from (ltb from until) (leb wants was.room) (lt-ltb from until span) (le-leb wants was.room room))

pub returns-clause-list : goal.returns-clause-list
returns-clause-list g c =
    let was = c.args.self.now in
    let ends = c.ends_of-ends.result in
    let span : Span = record { from = c.args.from; until = c.args.until } in
    let a = subst (λ (ys : List (Slot g.row.V.Denot)). Found c.args.from was.floor ys ends.start) c.records.ensures c.ends_of-ends.ensures.start in
    let b = subst (λ (ys : List (Slot g.row.V.Denot)). Found c.args.until ends.start.before (drop ends.start.place ys) ends.end) c.records.ensures c.ends_of-ends.ensures.end in
    let own = was.used + (c.lacks.result + c.lacks-2.result) in
    let u : was.used ≤ own = omega arith in
    let k : own ≤ was.room = omega (arith, c.if-self.false, c.if-self-more.false) in
    let e = ap (λ s. s.now) c.take-slots.ensures.value in
    let made = c.over-lent.ensures in
    λ t.
    record {
      used_is = ap length (c.items.ensures ∙ new_records g.V.Value.alike g.met.V.Value.told g.C.Change.changed was t span c.args.how c.if-from-until.false ends a b own c.take-slots.result.now c.over-lent.result c.settle.new.lent e u k made.room made.blank made.items made.memory c.settle.ensures);
      room_is = refl;
      floor_is = refl;
      memory_is = c.close-self.ensures.memory ∙ new_memory g.V.Value.alike g.met.V.Value.told g.C.Change.changed was t span c.args.how c.if-from-until.false ends a b own c.take-slots.result.now c.over-lent.result c.settle.new.lent e u k made.room made.blank made.items made.memory c.settle.ensures;
    }
