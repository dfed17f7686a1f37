-- A board that takes a token holds its booking, and what the table bars there leaves the board as it is. Assumes nothing.
use Rattle.std.proofs.Common.{◌≡◌, ℕ, Some, None, Option, ap, ◌∙◌, arith}
use Rattle.units.specs.Kinds.{Kind}
use Rattle.bookings.specs.Rows.{numbered}
use Rattle.bookings.specs.Table.{barred, fate}
use Rattle.bookings.specs.declared.event.Event.{Event}
use Rattle.bookings.specs.declared.event.Event.TheVariants.{Confirm}
use Rattle.bookings.specs.declared.row.Row.{Row}
use Rattle.bookings.specs.declared.row.State.{State}
use Rattle.bookings.specs.declared.row.State.TheVariants.{Blank, Confirmed, UnderWay, Held}
use Rattle.board.specs.Calls.{Holding, move, done, answer, after, move_answer, move_after, fate_answer, fate_after}

module _ {L : Type 0} (k : Kind L) (board : Holding L) (n : ℕ) (event : Event) (bars : fate event Held ≡ barred) where
  still_by_state : (r : Row L) (s : State) → fate_answer {L = L} Confirm (fate Confirm s) ≡ done → fate_after k board n r (fate event s) ≡ board
  still_by_state r Held e = ap (fate_after k board n r) bars
  still_by_state r Confirmed e = let z : ◌≡◌ {A = ℕ} 0 1 = cc in absurd (omega arith)
  still_by_state r UnderWay e = let z : ◌≡◌ {A = ℕ} 0 1 = cc in absurd (omega arith)
  still_by_state r Blank e = let z : ◌≡◌ {A = ℕ} 0 1 = cc in absurd (omega arith)

  still_by_row : (o : Option (Row L)) → move_answer Confirm o ≡ done → move_after k board event n o ≡ board
  still_by_row None e = let z : ◌≡◌ {A = ℕ} 0 1 = cc in absurd (omega arith)
  still_by_row (Some r) e = still_by_state r r.state e

  -- the board still takes it then
  pub still_takes : (then : Holding L) → answer k board (move Confirm n) ≡ done → then ≡ after k board (move event n) → answer k then (move Confirm n) ≡ done
  still_takes then takes left =
      let same : then ≡ board = left ∙ still_by_row (numbered n board.book.rows) takes in
      ap (λ (b : Holding L). answer k b (move Confirm n)) same ∙ takes
