-- What a move is answered, and what it leaves, once its row is known. Assumes nothing.
use Rattle.std.proofs.Common.{◌≡◌, ℕ, Some, sym, refl, ap, ◌∙◌}
use Rattle.units.specs.Kinds.{Kind}
use Rattle.bookings.specs.Rows.{numbered}
use Rattle.bookings.specs.Table.{Fate, becomes, leaves, barred, fate}
use Rattle.bookings.specs.declared.event.Event.{Event}
use Rattle.bookings.specs.declared.row.Row.{Row}
use Rattle.board.specs.Calls.{Holding, move, answer, after, fate_answer, fate_after, move_answer, move_after}
use Rattle.board.specs.Results.{done_result, done_by}

module _ {L : Type 0} (k : Kind L) (board : Holding L) (event : Event) (n : ℕ) (r : Row L) (there : numbered n board.book.rows ≡ Some r) where
  by_fate : (f : Fate) → done_by event f ≡ done_result (fate_answer {L = L} event f)
  by_fate (becomes s) = refl
  by_fate leaves = refl
  by_fate barred = refl

  pub moved_answer : done_by event (fate event r.state) ≡ done_result (answer k board (move event n))
  moved_answer = by_fate (fate event r.state) ∙ sym (ap (λ a. done_result a) (ap (move_answer event) there))

  pub moved_after : after k board (move event n) ≡ fate_after k board n r (fate event r.state)
  moved_after = ap (move_after k board event n) there
