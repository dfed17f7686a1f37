-- Files and boards match: a load keeps what boards keep and leaves a board on which a booking stands, what is saved is loaded, and what is loaded is saved. Assumes nothing.
use Rattle.std.specs.Prelude.{◌≡◌, ℕ, ◌≤◌, List, [], length, None}
use Rattle.slots.specs.Lists.{In}
use Rattle.units.specs.Kinds.{Kind, Lawful}
use Rattle.bookings.specs.declared.row.Row.{Row}
use Rattle.boardfile.specs.Bytes.{Bytes}
use Rattle.boardfile.specs.Filings.{Filing, Faithful}
use Rattle.boardfile.specs.Files.{file_of}
use Rattle.board.specs.Calls.{Holding, done}
use Rattle.board.specs.Files.{load_answer, load_after, save_check, Equal}
use Rattle.board.specs.Keeping.{Kept}

-- A board that keeps what boards keep does so after the load of any bytes.
abbrev pub LoadsKeep : Type 0 → Type 0
LoadsKeep L = (k : Kind L) → Lawful k → (f : Filing L) (board : Holding L) → Kept k k.nothing board → (bytes : List ℕ) → Kept k k.nothing (load_after k f board bytes)

-- While a booking stands, a load changes nothing.
abbrev pub LoadsLeave : Type 0 → Type 0
LoadsLeave L = (k : Kind L) (f : Filing L) (board : Holding L) (bytes : List ℕ) (r : Row L) → In r board.book.rows → load_after k f board bytes ≡ board

-- The file of a board that can be saved is accepted by every board of its kind that has no booking and rows enough, which is then its equal.
pub record LoadedAgain {L : Type 0} (k : Kind L) (f : Filing L) (saved into : Holding L) : Type 0 where
  pub accepted : load_answer k f into (file_of f saved.book) ≡ done
  pub equal : Equal (load_after k f into (file_of f saved.book)) saved

abbrev pub SavedLoads : Type 0 → Type 0
SavedLoads L = (k : Kind L) → Lawful k → (f : Filing L) → Faithful k f → (saved into : Holding L) → Kept k k.nothing saved → (memory : ℕ) → save_check saved.book memory ≡ None → into.book.rows ≡ [] → length saved.book.rows ≤ into.book.room → LoadedAgain k f saved into

-- A file that is accepted is byte for byte what saving the board then writes, and nothing stands against saving it.
pub record SavedAgain {L : Type 0} (k : Kind L) (f : Filing L) (board : Holding L) (bytes : List ℕ) : Type 0 where
  pub same_bytes : file_of f (load_after k f board bytes).book ≡ bytes
  pub can_be_saved : (memory : ℕ) → length bytes ≤ memory → save_check (load_after k f board bytes).book memory ≡ None

abbrev pub AcceptedIsSaved : Type 0 → Type 0
AcceptedIsSaved L = (k : Kind L) (f : Filing L) → Faithful k f → (board : Holding L) (bytes : List ℕ) → Bytes bytes → load_answer k f board bytes ≡ done → SavedAgain k f board bytes
