-- Every call leaves the book that the ledger notes, and keeps what boards keep. Assumes nothing.
use Rattle.std.proofs.Common.{◌≡◌, ℕ, Some, None, Option, sym, refl, ap, ◌∙◌}
use Rattle.units.specs.Kinds.{Kind, Lawful}
use Rattle.bookings.specs.Rows.{numbered, replaced, with_rows}
use Rattle.bookings.specs.Table.{Fate, becomes, leaves, barred, fate}
use Rattle.bookings.specs.declared.booking.Booking.{Booking}
use Rattle.bookings.specs.declared.event.Event.{Event}
use Rattle.bookings.specs.declared.refusal.Refusal.{Refusal}
use Rattle.bookings.specs.declared.row.Row.{Row}
use Rattle.board.specs.Calls.{Holding, Call, hold, move, set_up_check, opened, made, hold_check, found_on, hold_answer, hold_after, fate_after, move_after, answer, after}
use Rattle.board.specs.Keeping.{Kept}
use Rattle.board.proofs.Keeps.{made_kept}
use Rattle.board.proofs.Steps.{after_kept}
use Rattle.lines.specs.Lines.{Line, make, ◌then◌, board_of}
use Rattle.lines.specs.Ledger.{started, left_of, treated, hold_noted, noted, ledger_of}
use Rattle.lines.proofs.Entries.{treated_none, treated_some, put_back}

module _ {L : Type 0} (k : Kind L) where
  pub made_as_noted : (c h rows records : ℕ) → (made k c h rows records).book ≡ started c h rows (set_up_check k c h rows records)
  made_as_noted c h rows records = go (set_up_check k c h rows records)
    where
      go : (o : Option Refusal) → (elim o as (λ _. Holding L) [ None ↦ opened c h rows | Some _ ↦ opened 0 0 0 ]).book ≡ started c h rows o
      go None = refl
      go (Some why) = refl

  module _ (board : Holding L) where
    hold_as_noted : (o : Option Refusal) (q : Option (Booking L)) → (hold_after k board o q).book ≡ hold_noted (hold_answer board o q) board.book
    hold_as_noted (Some why) q = refl
    hold_as_noted None None = refl
    hold_as_noted None (Some x) = refl

    move_as_noted : (event : Event) (n : ℕ) → (after k board (move event n)).book ≡ with_rows (treated event n board.book.rows) board.book
    move_as_noted event n = go (numbered n board.book.rows) refl
      where
        by_fate : (r : Row L) (f : Fate) → treated event n board.book.rows ≡ replaced n (left_of r f) board.book.rows → numbered n board.book.rows ≡ Some r → (fate_after k board n r f).book ≡ with_rows (treated event n board.book.rows) board.book
        by_fate r (becomes s) t e = ap (λ rows. with_rows rows board.book) (sym t)
        by_fate r leaves t e = ap (λ rows. with_rows rows board.book) (sym t)
        by_fate r barred t e = ap (λ rows. with_rows rows board.book) (sym (t ∙ put_back n board.book.rows r e))

        go : (o : Option (Row L)) → numbered n board.book.rows ≡ o → (move_after k board event n o).book ≡ with_rows (treated event n board.book.rows) board.book
        go None e = ap (λ rows. with_rows rows board.book) (sym (treated_none event n board.book.rows e))
        go (Some r) e = by_fate r (fate event r.state) (treated_some event n board.book.rows r e) e

    pub as_noted : (call : Call L) → (after k board call).book ≡ noted call (answer k board call) board.book
    as_noted (hold request policy) = hold_as_noted (hold_check board.book request) (found_on k board request policy)
    as_noted (move event n) = move_as_noted event n

  -- ALONG A LINE

  pub book_is : (line : Line L) → (board_of k line).book ≡ ledger_of k line
  book_is (make c h rows records) = made_as_noted c h rows records
  book_is (line then call) = as_noted (board_of k line) call ∙ ap (noted call (answer k (board_of k line) call)) (book_is line)

  pub all_kept : Lawful k → (line : Line L) → Kept k k.nothing (board_of k line)
  all_kept lawful (make c h rows records) = made_kept k lawful k.nothing c h rows records refl
  all_kept lawful (line then call) = after_kept k lawful k.nothing (board_of k line) (all_kept lawful line) call
