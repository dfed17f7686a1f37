-- What the check of the room decides, where nothing else stands against a file. Assumes nothing.
use Rattle.std.proofs.Common.{◌≡◌, ℕ, true, false, cond, eqb, ltb, List, length, Some, None, sym, ap, ◌∙◌}
use Rattle.units.specs.Kinds.{Kind}
use Rattle.bookings.specs.Refusals.{first_that_applies}
use Rattle.bookings.specs.declared.refusal.FileFault.TheVariants.{Room}
use Rattle.boardfile.specs.Faults.{header_allowed, header_checks}
use Rattle.boardfile.specs.Files.{header_in, file_length}
use Rattle.boardfile.specs.Filings.{Filing}
use Rattle.boardfile.specs.declared.header.Header.{Header}

pub by_the_room : {L : Type 0} (k : Kind L) (f : Filing L) (room : ℕ) (bs : List ℕ) (header : Header) → ltb (length bs) 24 ≡ false → header ≡ header_in bs → header_allowed k f header ≡ true → eqb (length bs) (file_length header.count) ≡ true → first_that_applies (header_checks k f room bs) ≡ cond (ltb room header.count) (Some Room) None
by_the_room k f room bs header short is allowed long =
    let passes = ap (header_allowed k f) (sym is) ∙ allowed in
    let whole = ap (λ (h : Header). eqb (length bs) (file_length h.count)) (sym is) ∙ long in
    rw (short, passes, whole) (ap (λ (h : Header). cond (ltb room h.count) (Some Room) None) (sym is))
