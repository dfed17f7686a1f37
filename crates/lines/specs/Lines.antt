-- Lines of calls: a board is made, and then called, each call on what the one before left. Assumes nothing.
use Rattle.std.specs.Prelude.{ℕ}
use Rattle.units.specs.Kinds.{Kind}
use Rattle.board.specs.Calls.{Holding, Call, made, after}

infixl 20 ◌then◌
-- Each beginning of a line is a line, so what is said of every line is said at every point of each.
pub data Line (L : Type 0) : Type 0 where
  -- capacity, horizon, rows and slot records: any numbers
  make : ℕ → ℕ → ℕ → ℕ → Line L
  -- any call, also one that is refused; a hold brings its own policy
  ◌then◌ : Line L → Call L → Line L

-- the board at the end of the line
abbrev pub board_of : {L : Type 0} → Kind L → Line L → Holding L
board_of k (make c h rows records) = made k c h rows records
board_of k (line then call) = after k (board_of k line) call
