use Rattle.std.proofs.Common.{◌≡◌, List, [], ◌∷◌, take, sym, ap, ◌∙◌, arith}
use Rattle.std.specs.List.{slice_get}
use Rattle.slots.specs.Stepped.{slot_of}
use Rattle.slots.specs.Steps.{wanting, last_of, at_most_one}
use Rattle.slots.specs.declared.slot.Slot.{Slot}
use Rattle.slots.proofs.Splits.{place_le}
use Rattle.slots.proofs.Spots.{first_there, first_another, none_there}
use Rattle.slots.proofs.reads.spot_of.Goals as goal
use Rattle.slots.proofs.reads.spot_of.Goals.{in-Some, in_default, in_default-via-in-Some+else-s-minute, in_default-via-in_default}

pub split_at-requires : goal.split_at-requires
split_at-requires g c = omega (arith, place_le c.args.minute c.args.slots.now, c.place_of-place.ensures)

pub returns-clause-found : goal.returns-clause-found
returns-clause-found g c =
    let xs = c.args.slots.now in
    let m = c.args.minute in
    let b = c.args.floor in
    let i = c.place_of-place.result in
    let p = c.place_of-place.ensures in
    let before = c.value_after-before.ensures ∙ ap (last_of b) c.split_at.ensures.front in
    let behind = λ (o : _) (e : o ≡ slice_get c.split_at.result.1.now 0). e ∙ ap (λ (zs : List (Slot g.row.V.Denot)). slice_get zs 0) c.split_at.ensures.back in
    let new = λ (w : wanting m b xs ≡ slot_of m (last_of b (take i xs)) ∷ []). w ∙ ap (λ v. slot_of m v ∷ []) (sym before) in
    record {
      place_is = p;
      before_is = before;
      wanting_is = elim c.match-first.branch [
        | in-Some w ↦ first_there m b xs i p w.in-Some.s.now (behind _ w.in-Some.ensures.value) w.if-s-minute.true ∙ ap at_most_one (sym w.lacking-is)
        | in_default w ↦ elim w.in_default.branch [
          | in_default-via-in-Some+else-s-minute v ↦ new (first_another m b xs i p v.in-Some.s.now (behind _ v.in-Some.ensures.value) v.if-s-minute.false)
          | in_default-via-in_default v ↦ new (none_there m b xs i p (behind _ v.in_default.ensures.value))
        ] ∙ ap at_most_one (sym w.lacking-is)
      ];
    }
