use Rattle.std.proofs.Common.{Err, refl, ap, ◌∙◌, arith}
use Rattle.std.proofs.lemmas.Result.{err_from_is_err_and}
use Rattle.board.specs.Views.{holding}
use Rattle.board.proofs.Admitted.{none_read, row_fault, number_small, row_enters, row_clash, row_read, all_read, no_fault_done}
use Rattle.board.proofs.Outcomes.{unmoved, moved_again}
use Rattle.board.proofs.board.Board.admit_all.Goals as goal

pub loop-i-init : goal.loop-i-init
loop-i-init g c =
    let was = c.args.self.now in
    (none_read g.L.Units.kind g.L.Filed.filing c.args.header c.args.rows.now was.rows.room (holding was) c.requires.0, unmoved was)

pub admit-requires : goal.admit-requires
admit-requires g c =
    row_enters g.L.Units.kind g.L.Filed.filing c.args.header c.args.rows.now c.args.self.now.rows.room c.loop-i.i c.loop-i.low (holding c.loop-i.self) c.loop-i.invariant.0 c.loop-i-test.true c.in_ok-row.row c.in_ok-row.ensures c.requires.1.1 c.requires.1.0

pub overflow_add-low : goal.overflow_add-low
overflow_add-low g c =
    let small = number_small g.L.Units.kind g.L.Filed.filing c.args.header c.args.rows.now c.args.self.now.rows.room c.loop-i.i c.loop-i.low (holding c.loop-i.self) c.loop-i.invariant.0 c.loop-i-test.true c.in_ok-row.row c.in_ok-row.ensures in
    let most = c.requires.1.0 in
    omega arith

pub loop-i-preserved : goal.loop-i-preserved
loop-i-preserved g c =
    let did = c.in_ok-admit.ensures in (
      row_read g.L.Units.kind g.L.Filed.filing c.args.header c.args.rows.now c.args.self.now.rows.room c.loop-i.i c.loop-i.low (holding c.loop-i.self) c.loop-i.invariant.0 c.loop-i-test.true c.in_ok-row.row c.in_ok-row.ensures c.in_ok-admit.field-0 did.answer (holding c.admit.new.self) (did.board refl),
      moved_again _ _ _ c.loop-i.invariant.1 did.memory,
    )

pub returns-in_err-row : goal.returns-in_err-row
returns-in_err-row g c =
    let p = err_from_is_err_and c.from_residual.result c.from_residual.ensures.1 in
    record {
      answer = p.1 ∙ ap (λ w. Err w) p.2 ∙ row_fault g.L.Units.kind g.L.Filed.filing c.args.header c.args.rows.now c.args.self.now.rows.room c.loop-i.i c.loop-i.low (holding c.loop-i.self) c.loop-i.invariant.0 c.loop-i-test.true c.in_err-row.field-0.0 c.in_err-row.ensures;
      book = λ e. absurd (no_fault_done c.from_residual.result p.0 p.1 e);
      room = ap (λ q. q.room) c.loop-i.invariant.0.book_is;
      memory = c.loop-i.invariant.1;
    }

pub returns-in_err-admit : goal.returns-in_err-admit
returns-in_err-admit g c =
    let p = err_from_is_err_and c.from_residual-in_err-admit.result c.from_residual-in_err-admit.ensures.1 in
    let did = c.in_err-admit.ensures in
    record {
      answer = p.1 ∙ ap (λ w. Err w) p.2 ∙ row_clash g.L.Units.kind g.L.Filed.filing c.args.header c.args.rows.now c.args.self.now.rows.room c.loop-i.i c.loop-i.low (holding c.loop-i.self) c.loop-i.invariant.0 c.loop-i-test.true c.in_ok-row.row c.in_ok-row.ensures c.in_err-admit.field-0.0 did.answer;
      book = λ e. absurd (no_fault_done c.from_residual-in_err-admit.result p.0 p.1 e);
      room = did.room ∙ ap (λ q. q.room) c.loop-i.invariant.0.book_is;
      memory = moved_again _ _ _ c.loop-i.invariant.1 did.memory;
    }

pub returns : goal.returns
returns g c =
    let all = all_read g.L.Units.kind g.L.Filed.filing c.args.header c.args.rows.now c.args.self.now.rows.room c.loop-i.i c.loop-i.low (holding c.loop-i.self) c.loop-i.invariant.0 c.loop-i-test.false in
    record {
      answer = all.0;
      book = λ e. all.1;
      room = ap (λ q. q.room) c.loop-i.invariant.0.book_is;
      memory = c.loop-i.invariant.1;
    }
