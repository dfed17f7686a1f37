-- What a board promises at every point of every line of calls and loads. Assumes nothing.
use Rattle.std.specs.Prelude.{◌≡◌, ℕ, List, []}
use Rattle.std.specs.Option.{option_map}
use Rattle.slots.specs.Lists.{In, Reordered}
use Rattle.units.specs.Kinds.{Kind, Lawful}
use Rattle.bookings.specs.Bookings.{standing}
use Rattle.bookings.specs.Rows.{Book, bookings}
use Rattle.bookings.specs.declared.refusal.Refusal.TheVariants.{BookingStands, File}
use Rattle.bookings.specs.declared.row.Row.{Row}
use Rattle.boardfile.specs.Faults.{file_fault}
use Rattle.boardfile.specs.Filings.{Filing}
use Rattle.board.specs.Calls.{Holding, refused}
use Rattle.board.specs.Files.{load_answer, check_answer}
use Rattle.lines.specs.FiledLines.{FiledLine, Begins, filed_board_of, filed_ledger_of, load_noted}
use Rattle.lines.specs.Promise.{PromiseBeside}

-- what a board promises beside the ledger of its line
pub record FiledPromiseBeside {L : Type 0} (k : Kind L) (f : Filing L) (board : Holding L) (ledger : Book L) : Type 0 where
  -- all that it promises beside the ledger of a line that loads nothing
  pub calls_promise : PromiseBeside k board ledger
  -- LOADS: a load is refused while a booking stands, and else for the first fault of the file, if it has one; while a booking stands, each entry stays as it was
  pub load_needs_rest : (bytes : List ℕ) (r : Row L) → In r ledger.rows → load_answer k f board bytes ≡ refused BookingStands
  pub load_by_file : (bytes : List ℕ) → ledger.rows ≡ [] → load_answer k f board bytes ≡ check_answer (option_map File (file_fault k f ledger.room bytes))
  pub loads_leave : (bytes : List ℕ) (r : Row L) → In r ledger.rows → In r (load_noted f bytes (load_answer k f board bytes) ledger).rows
  -- SAME: every line, with loads or without, that leaves the same claims at each minute, each as often, leaves the same slot list
  pub same_claims_same_slots : (other : FiledLine L) → Begins k other → ledger.capacity ≡ (filed_ledger_of k f other).capacity → ((m : ℕ) → Reordered (standing (bookings ledger.rows) m) (standing (bookings (filed_ledger_of k f other).rows) m)) → board.slots ≡ (filed_board_of k f other).slots

-- at the end of the line, and so at each of its points
abbrev pub FiledPromise : {L : Type 0} → Kind L → Filing L → FiledLine L → Type 0
FiledPromise k f line = FiledPromiseBeside k f (filed_board_of k f line) (filed_ledger_of k f line)

-- for every lawful kind, however its claims are filed, and every line of calls and loads
abbrev pub FiledLinesPromise : Type 0 → Type 0
FiledLinesPromise L = (k : Kind L) → Lawful k → (f : Filing L) (line : FiledLine L) → Begins k line → FiledPromise k f line
