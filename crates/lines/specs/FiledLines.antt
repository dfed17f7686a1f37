-- Lines of calls that load files too: a board is made, or one is at rest, and then it is called or loads a file, each time on what was left before. Assumes nothing.
use Rattle.std.specs.Prelude.{◌≡◌, ℕ, List, []}
use Rattle.units.specs.Kinds.{Kind}
use Rattle.bookings.specs.Rows.{Book, with_rows}
use Rattle.boardfile.specs.Filings.{Filing}
use Rattle.boardfile.specs.Files.{book_in}
use Rattle.board.specs.Calls.{Holding, Call, Answer, given, done, refused, made, set_up_check, answer, after}
use Rattle.board.specs.Files.{load_answer, load_after}
use Rattle.board.specs.Keeping.{Kept}
use Rattle.lines.specs.Ledger.{started, noted}

infixl 20 ◌calls◌ ◌loads◌
-- Each beginning of such a line is one too, so what is said of every line is said at every point of each.
pub data FiledLine (L : Type 0) : Type 0 where
  -- capacity, horizon, rows and slot records: any numbers
  makes : ℕ → ℕ → ℕ → ℕ → FiledLine L
  -- a board on which no booking stands, for a load to begin with
  at_rest : Holding L → FiledLine L
  -- the bytes of a file: any bytes, also such as are refused
  ◌loads◌ : FiledLine L → List ℕ → FiledLine L
  -- any call, also one that is refused; a hold brings its own policy
  ◌calls◌ : FiledLine L → Call L → FiledLine L

-- a board at rest is one that keeps what all boards keep, with no booking on it
abbrev pub Begins : {L : Type 0} → Kind L → FiledLine L → Type 0
Begins k (makes c h rows records) = Unit {0}
Begins k (at_rest board) = Kept k k.nothing board × (board.book.rows ≡ [])
Begins k (line loads bytes) = Begins k line
Begins k (line calls call) = Begins k line

-- the board at the end of the line
abbrev pub filed_board_of : {L : Type 0} → Kind L → Filing L → FiledLine L → Holding L
filed_board_of k f (makes c h rows records) = made k c h rows records
filed_board_of k f (at_rest board) = board
filed_board_of k f (line loads bytes) = load_after k f (filed_board_of k f line) bytes
filed_board_of k f (line calls call) = after k (filed_board_of k f line) call

-- an accepted file is taken over into the ledger; a refused one changes nothing
abbrev pub load_noted : {L : Type 0} → Filing L → List ℕ → Answer L → Book L → Book L
load_noted f bytes done ledger = book_in f ledger.room bytes
load_noted f bytes (given n x) ledger = ledger
load_noted f bytes (refused why) ledger = ledger

-- the ledger, from the calls' arguments and from what makings, holds and loads are answered
abbrev pub filed_ledger_of : {L : Type 0} → Kind L → Filing L → FiledLine L → Book L
filed_ledger_of k f (makes c h rows records) = started c h rows (set_up_check k c h rows records)
filed_ledger_of k f (at_rest board) = with_rows [] board.book
filed_ledger_of k f (line loads bytes) = load_noted f bytes (load_answer k f (filed_board_of k f line) bytes) (filed_ledger_of k f line)
filed_ledger_of k f (line calls call) = noted call (answer k (filed_board_of k f line) call) (filed_ledger_of k f line)
