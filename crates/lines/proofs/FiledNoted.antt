-- Every load leaves the book that the ledger notes, and so does every line of calls and loads, which keeps what boards keep. Assumes nothing.
use Rattle.std.proofs.Common.{◌≡◌, ℕ, List, Some, None, Option, refl, ap, ◌∙◌}
use Rattle.units.specs.Kinds.{Kind, Lawful}
use Rattle.bookings.specs.Rows.{with_rows}
use Rattle.bookings.specs.declared.refusal.Refusal.{Refusal}
use Rattle.boardfile.specs.Files.{book_in}
use Rattle.boardfile.specs.Filings.{Filing}
use Rattle.board.specs.Calls.{Holding, answer}
use Rattle.board.specs.Files.{load_check, with_book, check_answer, unless, load_answer, load_after}
use Rattle.board.specs.Keeping.{Kept}
use Rattle.board.proofs.Keeps.{made_kept}
use Rattle.board.proofs.Loads.{load_kept}
use Rattle.board.proofs.Steps.{after_kept}
use Rattle.lines.specs.Ledger.{noted}
use Rattle.lines.specs.FiledLines.{FiledLine, makes, at_rest, ◌loads◌, ◌calls◌, Begins, filed_board_of, load_noted, filed_ledger_of}
use Rattle.lines.proofs.Noted.{made_as_noted, as_noted}

module _ {L : Type 0} (k : Kind L) (f : Filing L) where
  load_as_noted : (board : Holding L) (bytes : List ℕ) → (load_after k f board bytes).book ≡ load_noted f bytes (load_answer k f board bytes) board.book
  load_as_noted board bytes = go (load_check k f board bytes)
    where
      go : (o : Option Refusal) → (unless o (with_book k (book_in f board.book.room bytes)) board).book ≡ load_noted f bytes (check_answer o) board.book
      go None = refl
      go (Some why) = refl

  pub filed_book_is : (line : FiledLine L) → Begins k line → (filed_board_of k f line).book ≡ filed_ledger_of k f line
  filed_book_is (makes c h rows records) b = made_as_noted k c h rows records
  filed_book_is (at_rest board) b = ap (λ rows. with_rows rows board.book) b.1
  filed_book_is (line loads bytes) b = load_as_noted (filed_board_of k f line) bytes ∙ ap (load_noted f bytes (load_answer k f (filed_board_of k f line) bytes)) (filed_book_is line b)
  filed_book_is (line calls call) b = as_noted k (filed_board_of k f line) call ∙ ap (noted call (answer k (filed_board_of k f line) call)) (filed_book_is line b)

  pub filed_kept : Lawful k → (line : FiledLine L) → Begins k line → Kept k k.nothing (filed_board_of k f line)
  filed_kept lawful (makes c h rows records) b = made_kept k lawful k.nothing c h rows records refl
  filed_kept lawful (at_rest board) b = b.0
  filed_kept lawful (line loads bytes) b = load_kept k f lawful k.nothing (filed_board_of k f line) (filed_kept lawful line b) bytes
  filed_kept lawful (line calls call) b = after_kept k lawful k.nothing (filed_board_of k f line) (filed_kept lawful line b) call
