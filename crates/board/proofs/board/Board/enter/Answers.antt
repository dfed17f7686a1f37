use Rattle.std.proofs.Common.{◌≡◌, ℕ, suc, Ok, sym, refl, ap, ◌∙◌, subst, add-one, arith}
use Rattle.bookings.specs.Grants.{booked}
use Rattle.bookings.specs.Rows.{row_of}
use Rattle.bookings.specs.declared.row.State.TheVariants.{Held}
use Rattle.board.specs.Adding.{MayEnter, with_row}
use Rattle.board.specs.Results.{grant_of, Takes}
use Rattle.board.specs.Views.{holding}
use Rattle.board.proofs.Keeps.{best, given_in_time, given_enters}
use Rattle.board.proofs.Searched.{granted_taken}
use Rattle.board.proofs.board.Board.enter.Goals as goal

pub overflow_add-end : goal.overflow_add-end
overflow_add-end g c =
    let k = g.L.Units.kind in
    let was = c.args.self.now in
    let x = booked c.args.request c.args.found.rectangle.start c.args.found.claim in
    let kept = was.keeping in
    let early = given_in_time k g.met.L.Units.keeps was.slots.floor (holding was) kept c.args.request c.requires.1.policy c.requires.0 x c.requires.1.is in
    let latest = kept.horizon_fits in
    omega arith

pub add-requires : goal.add-requires
add-requires g c =
    let k = g.L.Units.kind in
    let was = c.args.self.now in
    let x = booked c.args.request c.args.found.rectangle.start c.args.found.claim in
    let kept = was.keeping in
    let more : suc was.next ≡ c.number_after.result = sym (c.number_after.ensures ∙ add-one was.next) in (
      subst (λ (n : ℕ). MayEnter k (holding was) n (row_of was.next x Held)) more (given_enters k g.met.L.Units.keeps was.slots.floor (holding was) kept c.args.request c.requires.1.policy c.requires.0 x c.requires.1.is),
      (best k g.met.L.Units.keeps was.slots.floor (holding was) kept c.args.request c.requires.1.policy c.requires.0 x c.requires.1.is).fits,
    )

pub returns : goal.returns
returns g c =
    let k = g.L.Units.kind in
    let was = c.args.self.now in
    let x = booked c.args.request c.args.found.rectangle.start c.args.found.claim in
    let did = c.add.ensures in
    let entered = did.board ∙ ap (λ (n : ℕ). with_row k (holding was) n (row_of was.next x Held)) (c.number_after.ensures ∙ add-one was.next) in
    record {
      answer = refl;
      board = entered;
      takes = subst (λ b. Takes k b (Ok (grant_of was.next x))) (sym entered) (granted_taken k was.slots.floor (holding was) was.keeping x);
      memory = did.memory;
    }
