use Rattle.std.proofs.Common.{ℕ, map, Ok, Err, sym, ap, subst, ◌∙◌, arith}
use Rattle.std.proofs.lemmas.Result.{err_from_is_err_and}
use Rattle.boardfile.specs.Files.{row_in}
use Rattle.board.specs.Adding.{emptied}
use Rattle.board.specs.FileSteps.{headed}
use Rattle.board.specs.Views.{holding}
use Rattle.board.proofs.TakenOver.{early_answer, early_board, header_fits, rows_fit, late_answer, done_board, fault_board, own_fit, own_again}
use Rattle.boardfile.specs.Reading.{Opens}
use Rattle.board.proofs.Outcomes.{unmoved, moved_again}
use Rattle.board.proofs.board.Board.take_over.Goals as goal

pub returns-in_err-header : goal.returns-in_err-header
returns-in_err-header g c =
    let was = c.args.self.now in
    let p = err_from_is_err_and c.from_residual.result c.from_residual.ensures.1 in
    let why = c.in_err-header.field-0.0 in
    record {
      answer = early_answer g.L.Units.kind g.L.Filed.filing (holding was) c.args.bytes.now c.requires why (subst (λ (n : ℕ). Opens g.L.Units.kind g.L.Filed.filing n c.args.bytes.now (Err why)) c.room.ensures c.in_err-header.ensures) c.from_residual.result (p.1 ∙ ap (λ w. Err w) p.2);
      board = early_board g.L.Units.kind g.L.Filed.filing (holding was) c.args.bytes.now c.requires why (subst (λ (n : ℕ). Opens g.L.Units.kind g.L.Filed.filing n c.args.bytes.now (Err why)) c.room.ensures c.in_err-header.ensures);
      memory = unmoved was;
    }

pub reset-requires : goal.reset-requires
reset-requires g c =
    let opened = subst (λ (n : ℕ). Opens g.L.Units.kind g.L.Filed.filing n c.args.bytes.now (Ok (c.in_ok-header.header, c.in_ok-header.rows))) c.room.ensures c.in_ok-header.ensures in
    header_fits g.L.Units.kind g.L.Filed.filing (holding c.args.self.now) c.args.bytes.now c.requires c.in_ok-header.header c.in_ok-header.rows.now opened.0 opened.1 opened.2

pub admit_all-read-requires : goal.admit_all-read-requires
admit_all-read-requires g c =
    let opened = subst (λ (n : ℕ). Opens g.L.Units.kind g.L.Filed.filing n c.args.bytes.now (Ok (c.in_ok-header.header, c.in_ok-header.rows))) c.room.ensures c.in_ok-header.ensures in
    let header = c.in_ok-header.header in
    let same = ap (λ b. b.book.room) c.reset.ensures.board in
    let few = rows_fit g.L.Units.kind g.L.Filed.filing (holding c.args.self.now) c.args.bytes.now c.requires header c.in_ok-header.rows.now opened.0 opened.1 opened.2 in (
      c.reset.ensures.board ∙ ap (λ (n : ℕ). emptied header.capacity header.horizon n header.next) (sym same),
      ((header_fits g.L.Units.kind g.L.Filed.filing (holding c.args.self.now) c.args.bytes.now c.requires header c.in_ok-header.rows.now opened.0 opened.1 opened.2).next_fits, omega arith),
    )

pub reset-requires-then-is_err : goal.reset-requires-then-is_err
reset-requires-then-is_err g c =
    let was = c.args.self.now in
    own_fit g.L.Units.kind g.met.L.Units.keeps was.slots.floor (holding was) was.keeping c.requires

pub returns-then-is_err : goal.returns-then-is_err
returns-then-is_err g c =
    let k = g.L.Units.kind in
    let was = c.args.self.now in
    let opened = subst (λ (n : ℕ). Opens g.L.Units.kind g.L.Filed.filing n c.args.bytes.now (Ok (c.in_ok-header.header, c.in_ok-header.rows))) c.room.ensures c.in_ok-header.ensures in
    let read = c.admit_all-read.ensures in
    let again = c.reset-then-is_err.ensures in
    let same = read.room ∙ ap (λ b. b.book.room) c.reset.ensures.board in
    record {
      answer = late_answer k g.L.Filed.filing (holding was) c.args.bytes.now c.requires c.in_ok-header.header c.in_ok-header.rows.now opened.0 opened.1 opened.2 c.admit_all-read.result read.answer;
      board = fault_board k g.L.Filed.filing (holding was) c.args.bytes.now c.requires c.in_ok-header.header c.in_ok-header.rows.now opened.0 opened.1 opened.2 c.admit_all-read.result read.answer c.if-is_err.ensures.value (holding c.reset-then-is_err.new.self)
          (again.board ∙ ap (λ (n : ℕ). emptied was.capacity was.horizon n was.next) same ∙ own_again k g.met.L.Units.keeps was.slots.floor (holding was) was.keeping c.requires);
      memory = moved_again _ _ _ (moved_again _ _ _ c.reset.ensures.memory read.memory) again.memory;
    }

pub returns-else-is_err : goal.returns-else-is_err
returns-else-is_err g c =
    let k = g.L.Units.kind in
    let was = c.args.self.now in
    let is = c.admit_all-read.new.self in
    let header = c.in_ok-header.header in
    let rows = c.in_ok-header.rows.now in
    let opened = subst (λ (n : ℕ). Opens g.L.Units.kind g.L.Filed.filing n c.args.bytes.now (Ok (c.in_ok-header.header, c.in_ok-header.rows))) c.room.ensures c.in_ok-header.ensures in
    let read = c.admit_all-read.ensures in
    let same = ap (λ b. b.book.room) c.reset.ensures.board in
    record {
      answer = late_answer k g.L.Filed.filing (holding was) c.args.bytes.now c.requires header rows opened.0 opened.1 opened.2 c.admit_all-read.result read.answer;
      board = done_board k g.L.Filed.filing (holding was) c.args.bytes.now c.requires header rows opened.0 opened.1 opened.2 c.admit_all-read.result read.answer c.if-is_err.ensures.value is.slots.floor (holding is) is.keeping (λ e. read.book e ∙ ap (λ (n : ℕ). headed header n (map (row_in g.L.Filed.filing) rows)) same);
      memory = moved_again _ _ _ c.reset.ensures.memory read.memory;
    }
