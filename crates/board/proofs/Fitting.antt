-- Whether a booking fits in, told by the slot list. Assumes nothing.
use Rattle.std.proofs.Common.{◌≡◌, ◌-◌, ◌<◌, true, List, ap, ◌∙◌}
use mathlib.Core.Path.{fun_ext}
use Rattle.slots.specs.Stepped.{at, ascends}
use Rattle.slots.specs.declared.slot.Slot.{Slot}
use Rattle.slots.proofs.Unique.{canonical_ascending}
use Rattle.units.specs.Kinds.{Kind, Lawful}
use Rattle.planning.specs.Search.{joined_over}
use Rattle.bookings.specs.Rows.{bookings}
use Rattle.bookings.specs.declared.booking.Booking.{Booking}
use Rattle.boardfile.specs.Faults.{fits_in}
use Rattle.board.specs.Calls.{Holding}
use Rattle.board.specs.Keeping.{Kept}
use Rattle.board.proofs.Admits.{clear_is_fits}
use Rattle.board.proofs.Keeps.{laws, right}
use Rattle.board.proofs.Searched.{ascending_test}

pub fits_told : {L : Type 0} (k : Kind L) (lawful : Lawful k) (floor : L) (board : Holding L) → Kept k floor board → (x : Booking L) → x.start < x.end → (xs : List (Slot L)) → xs ≡ board.slots → (load : L)
    → (ascends 0 xs ≡ true → load ≡ joined_over k (at k.nothing xs) x.start (x.end - x.start)) → k.clear board.book.capacity x.claim load ≡ fits_in k board.book.capacity (bookings board.book.rows) x
fits_told k lawful floor board kept x some xs all load told =
    let c = board.book.capacity in
    let says = right k lawful floor board kept in
    let tidy = ascending_test 0 board.slots (canonical_ascending 0 k.nothing board.slots says.0) in
    ap (k.clear c x.claim) (told (ap (ascends 0) all ∙ tidy) ∙ ap (λ ys. joined_over k (at k.nothing ys) x.start (x.end - x.start)) all ∙ ap (λ loads. joined_over k loads x.start (x.end - x.start)) (fun_ext says.1))
    ∙ clear_is_fits k c (bookings board.book.rows) x (laws k lawful floor board kept) some
