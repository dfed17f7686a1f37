-- No call moves a booking that it is not for, or gives a number's booking another start, end or claim. Assumes nothing.
use Rattle.std.proofs.Common.{◌≡◌, ℕ, ◌⊎◌, [], ◌∷◌, Some, None, Option, sym, ap, ◌∙◌, inl, inr, arith}
use Rattle.slots.specs.Lists.{In}
use Rattle.units.specs.Kinds.{Kind}
use Rattle.planning.proofs.Members.{in_left}
use Rattle.bookings.specs.Rows.{row_of, Numbered}
use Rattle.bookings.specs.declared.booking.Booking.{Booking}
use Rattle.bookings.specs.declared.event.Event.{Event}
use Rattle.bookings.specs.declared.refusal.Refusal.{Refusal}
use Rattle.bookings.specs.declared.row.Row.{Row}
use Rattle.bookings.specs.declared.row.State.TheVariants.{Held}
use Rattle.board.specs.Calls.{Holding, Call, hold, move, hold_check, found_on, hold_answer, answer}
use Rattle.lines.specs.Ledger.{treated, hold_noted, noted}
use Rattle.lines.specs.Promise.{Concerns}
use Rattle.lines.proofs.Entries.{in_more, others_left, came_from, same_entry, below_next}

module _ {L : Type 0} (board : Holding L) (numbers : Numbered 1 board.book.next board.book.rows) where
  hold_stays : (o : Option Refusal) (q : Option (Booking L)) (r : Row L) → In r board.book.rows → In r (hold_noted (hold_answer board o q) board.book).rows
  hold_stays (Some why) q r i = i
  hold_stays None None r i = i
  hold_stays None (Some x) r i = in_left r board.book.rows (row_of board.book.next x Held ∷ []) i

  abbrev same : (r s : Row L) → In r board.book.rows → In s board.book.rows → s.number ≡ r.number → s.booking ≡ r.booking
  same r s i j e = ap (λ v. v.booking) (same_entry board.book.next board.book.rows numbers r s i j e)

  hold_shifts_none : (o : Option Refusal) (q : Option (Booking L)) (r s : Row L) → In r board.book.rows → In s (hold_noted (hold_answer board o q) board.book).rows → s.number ≡ r.number → s.booking ≡ r.booking
  hold_shifts_none (Some why) q r s i j e = same r s i j e
  hold_shifts_none None None r s i j e = same r s i j e
  hold_shifts_none None (Some x) r s i j e = go (in_more s (row_of board.book.next x Held) board.book.rows j)
    where
      go : In s board.book.rows ⊎ (s ≡ row_of board.book.next x Held) → s.booking ≡ r.booking
      go (inl there) = same r s i there e
      go (inr new) = absurd (omega (arith, below_next 1 board.book.next board.book.rows numbers r i, ap (λ v. v.number) new))

  move_shifts_none : (event : Event) (n : ℕ) (r s : Row L) → In r board.book.rows → In s (treated event n board.book.rows) → s.number ≡ r.number → s.booking ≡ r.booking
  move_shifts_none event n r s i j e = let was = came_from event n board.book.rows s j in was.3 ∙ same r was.0 i was.1 (sym was.2 ∙ e)

  module _ (k : Kind L) where
    pub all_stay : (call : Call L) (r : Row L) → In r board.book.rows → (Concerns call r.number → ⊥) → In r (noted call (answer k board call) board.book).rows
    all_stay (hold request policy) r i other = hold_stays (hold_check board.book request) (found_on k board request policy) r i
    all_stay (move event n) r i other = others_left event n board.book.rows r i other

    pub shifts_none : (call : Call L) (r s : Row L) → In r board.book.rows → In s (noted call (answer k board call) board.book).rows → s.number ≡ r.number → s.booking ≡ r.booking
    shifts_none (hold request policy) r s i j e = hold_shifts_none (hold_check board.book request) (found_on k board request policy) r s i j e
    shifts_none (move event n) r s i j e = move_shifts_none event n r s i j e
