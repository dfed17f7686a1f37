-- What the search over a board's records finds is what the board's definition finds, and what is granted is then held. Assumes nothing.
use Rattle.std.proofs.Common.{◌≡◌, ℕ, suc, ◌≤◌, true, leb, List, [], ◌∷◌, ◌++◌, Some, None, Ok, Option, sym, refl, ap, ◌∙◌, arith}
use Rattle.std.proofs.lemmas.Bool.{le-leb, and_from, eq-eqb, ne_eqb}
use Rattle.slots.specs.Stepped.{at, Ascending, ascends}
use Rattle.slots.specs.declared.slot.Slot.{Slot}
use Rattle.slots.proofs.Unique.{canonical_ascending}
use Rattle.units.specs.Kinds.{Kind, Lawful}
use Rattle.planning.specs.Policies.{Preference, found}
use Rattle.planning.specs.declared.found.Found.{Found}
use Rattle.planning.specs.declared.request.Request.{Request}
use Rattle.bookings.specs.Grants.{booking_of}
use Rattle.bookings.specs.Rows.{Numbered, numbered, row_of}
use Rattle.bookings.specs.declared.booking.Booking.{Booking}
use Rattle.bookings.specs.declared.event.Event.TheVariants.{Confirm, Release}
use Rattle.bookings.specs.declared.row.Row.{Row}
use Rattle.bookings.specs.declared.row.State.TheVariants.{Held}
use Rattle.board.specs.Calls.{Holding, found_on, move_answer, with_booking}
use Rattle.board.specs.Keeping.{Kept}
use Rattle.board.specs.Results.{grant_of, Takes}
use Rattle.board.specs.Seeking.{Sought}
use Rattle.board.proofs.Keeps.{right}

pub ascending_test : {L : Type 0} (low : ℕ) (xs : List (Slot L)) → Ascending low xs → ascends low xs ≡ true
ascending_test low [] h = refl
ascending_test low (x ∷ xs) h = and_from (leb low x.minute) (ascends (suc x.minute) xs) (le-leb _ _ h.0) (ascending_test (suc x.minute) xs h.1)

module _ {L : Type 0} where
  not_above : (low next : ℕ) (rows : List (Row L)) → Numbered low next rows → low ≤ next
  not_above low next [] h = h
  not_above low next (r ∷ rows) h = omega (arith, h.0, not_above (suc r.number) next rows h.1)

  -- a row under the next number is found behind all others
  numbered_last : (low next : ℕ) (rows : List (Row L)) (row : Row L) → row.number ≡ next → Numbered low next rows → numbered next (rows ++ (row ∷ [])) ≡ Some row
  numbered_last low next [] row e h = rw (eq-eqb row.number next e)
  numbered_last low next (r ∷ rows) row e h =
      let below = not_above (suc r.number) next rows h.1 in
      rw (ne_eqb r.number next (λ q. omega arith)) (numbered_last (suc r.number) next rows row e h.1)

  pub granted_taken : (k : Kind L) (floor : L) (board : Holding L) → Kept k floor board → (x : Booking L) → Takes k (with_booking k board x) (Ok (grant_of board.book.next x))
  granted_taken k floor board kept x =
      let there = numbered_last 1 board.book.next board.book.rows (row_of board.book.next x Held) refl kept.numbers in
      (ap (move_answer Confirm) there, ap (move_answer Release) there, refl)

module _ {L : Type 0} (k : Kind L) (lawful : Lawful k) (floor : L) (board : Holding L) (kept : Kept k floor board) (request : Request) (policy : Preference) (xs : List (Slot L)) (all : xs ≡ board.slots) (result : Option (Found L))
    (finds : ascends 0 xs ≡ true → result ≡ found k board.book.capacity policy board.book.horizon (at k.nothing xs) request xs) where
  pub search_is : booking_of request result ≡ found_on k board request policy
  search_is =
      let tidy = ascending_test 0 board.slots (canonical_ascending 0 k.nothing board.slots (right k lawful floor board kept).0) in
      ap (booking_of request) (finds (ap (ascends 0) all ∙ tidy) ∙ ap (λ ys. found k board.book.capacity policy board.book.horizon (at k.nothing ys) request ys) all)

-- by what it found
pub sought_is : {L : Type 0} (k : Kind L) (board : Holding L) (request : Request) (policy : Preference) (result : Option (Found L)) → booking_of request result ≡ found_on k board request policy → Sought k board request policy result
sought_is k board request policy None e = sym e
sought_is k board request policy (Some f) e = (sym e, record { policy = policy; is = sym e })
