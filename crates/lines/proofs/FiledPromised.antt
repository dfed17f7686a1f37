-- A board keeps its promise at the end of every line of calls and loads. Assumes nothing.
use Rattle.std.proofs.Common.{◌≡◌, ℕ, List, sym, ap, subst}
use Rattle.slots.specs.Lists.{In, Reordered}
use Rattle.units.specs.Kinds.{Kind, Lawful}
use Rattle.bookings.specs.Bookings.{standing}
use Rattle.bookings.specs.Rows.{Book, bookings}
use Rattle.bookings.specs.declared.row.Row.{Row}
use Rattle.boardfile.specs.Filings.{Filing}
use Rattle.board.specs.Calls.{Holding}
use Rattle.board.specs.Files.{load_refusal, load_answer, check_answer}
use Rattle.board.specs.Keeping.{Kept}
use Rattle.board.proofs.Stays.{load_refused}
use Rattle.lines.specs.FiledLines.{FiledLine, Begins, filed_board_of, load_noted, filed_ledger_of}
use Rattle.lines.specs.FiledPromise.{FiledPromiseBeside, FiledLinesPromise}
use Rattle.lines.proofs.FiledNoted.{filed_book_is, filed_kept}
use Rattle.lines.proofs.Promised.{promised, same_slots}

module _ {L : Type 0} (k : Kind L) (lawful : Lawful k) (f : Filing L) (board : Holding L) (kept : Kept k k.nothing board) where
  load_leaves : (bytes : List ℕ) (r : Row L) → In r board.book.rows → In r (load_noted f bytes (load_answer k f board bytes) board.book).rows
  load_leaves bytes r i = subst (λ o. In r (load_noted f bytes (check_answer o) board.book).rows) (sym (load_refused k board f bytes r i)) i

  one_list : (other : FiledLine L) → Begins k other → board.book.capacity ≡ (filed_ledger_of k f other).capacity → ((m : ℕ) → Reordered (standing (bookings board.book.rows) m) (standing (bookings (filed_ledger_of k f other).rows) m)) → board.slots ≡ (filed_board_of k f other).slots
  one_list other begins =
      let P : Book L → Type 0 = λ book. board.book.capacity ≡ book.capacity → ((m : ℕ) → Reordered (standing (bookings board.book.rows) m) (standing (bookings book.rows) m)) → board.slots ≡ (filed_board_of k f other).slots in
      subst P (filed_book_is k f other begins) (same_slots k lawful board kept (filed_board_of k f other) (filed_kept k f lawful other begins))

  filed_promised : FiledPromiseBeside k f board board.book
  filed_promised = record {
    calls_promise = promised k lawful board kept;
    load_needs_rest = λ bytes r i. ap check_answer (load_refused k board f bytes r i);
    load_by_file = λ bytes none. ap (λ rows. check_answer (load_refusal k f board.book.room rows bytes)) none;
    loads_leave = load_leaves;
    same_claims_same_slots = one_list;
  }

pub filed_lines_promise : {L : Type 0} → FiledLinesPromise L
filed_lines_promise k lawful f line begins = subst (FiledPromiseBeside k f (filed_board_of k f line)) (filed_book_is k f line begins) (filed_promised k lawful f (filed_board_of k f line) (filed_kept k f lawful line begins))
