-- Granted bookings stay put, by the cases of the calls. Assumes nothing.
use Rattle.std.proofs.Common.{◌≡◌, ℕ, Bool, true, false, cond, eqb, ◌⊎◌, List, [], ◌∷◌, ◌++◌, Some, None, Option, sym, refl, ap, ◌∙◌, inl, inr}
use Rattle.std.proofs.lemmas.Bool.{eqb-true}
use Rattle.slots.specs.Lists.{In}
use Rattle.units.specs.Kinds.{Kind}
use Rattle.bookings.specs.Rows.{row_of, numbered, replaced}
use Rattle.bookings.specs.Table.{Fate, becomes, leaves, barred, fate}
use Rattle.bookings.specs.declared.booking.Booking.{Booking}
use Rattle.bookings.specs.declared.event.Event.{Event}
use Rattle.bookings.specs.declared.refusal.Refusal.{Refusal}
use Rattle.bookings.specs.declared.refusal.Refusal.TheVariants.{BookingStands}
use Rattle.bookings.specs.declared.row.Row.{Row}
use Rattle.bookings.specs.declared.row.State.TheVariants.{Held}
use Rattle.bookings.proofs.Found.{some_none, some_is}
use Rattle.boardfile.specs.Files.{book_in}
use Rattle.boardfile.specs.Filings.{Filing}
use Rattle.board.specs.Calls.{Holding, Call, hold, move, hold_check, found_on, hold_after, fate_after, move_after, after}
use Rattle.board.specs.Files.{load_refusal, load_check, with_book, unless, load_after}
use Rattle.board.specs.FileTheorems.{LoadsLeave}
use Rattle.board.specs.Theorems.{Moves, StayPut}

module _ {L : Type 0} where
  in_front : (r : Row L) (xs ys : List (Row L)) → In r xs → In r (xs ++ ys)
  in_front r [] ys i = absurd i
  in_front r (x ∷ xs) ys (inl e) = inl e
  in_front r (x ∷ xs) ys (inr i) = inr (in_front r xs ys i)

  in_either : (r : Row L) (xs ys : List (Row L)) → In r (xs ++ ys) → In r xs ⊎ In r ys
  in_either r [] ys i = inr i
  in_either r (x ∷ xs) ys (inl e) = inl (inl e)
  in_either r (x ∷ xs) ys (inr i) = elim (in_either r xs ys i) [ inl j ↦ inl (inr j) | inr j ↦ inr j ]

  in_back : (r : Row L) (xs ys : List (Row L)) → In r ys → In r (xs ++ ys)
  in_back r [] ys i = i
  in_back r (x ∷ xs) ys i = inr (in_back r xs ys i)

  -- rows of other numbers stay when row n is replaced
  in_replaced : (n : ℕ) (these rows : List (Row L)) (r : Row L) → In r rows → (n ≡ r.number → ⊥) → In r (replaced n these rows)
  in_replaced n these [] r i o = absurd i
  in_replaced n these (x ∷ rows) r i o = go (eqb x.number n) refl (λ j. in_replaced n these rows r j o) i
    where
      go : (t : Bool) → eqb x.number n ≡ t → (In r rows → In r (replaced n these rows)) → In r (x ∷ rows) → In r (cond t (these ++ rows) (x ∷ replaced n these rows))
      go true e rest (inl q) = absurd (o (sym (eqb-true x.number n e) ∙ ap (λ v. v.number) (sym q)))
      go true e rest (inr j) = in_back r these rows j
      go false e rest (inl q) = inl q
      go false e rest (inr j) = inr (rest j)

  -- what stands then stood before, or is one of those put in
  from_replaced : (n : ℕ) (these rows : List (Row L)) (r : Row L) → In r (replaced n these rows) → In r rows ⊎ In r these
  from_replaced n these [] r i = absurd i
  from_replaced n these (x ∷ rows) r i = go (eqb x.number n) (from_replaced n these rows r) i
    where
      go : (t : Bool) → (In r (replaced n these rows) → In r rows ⊎ In r these) → In r (cond t (these ++ rows) (x ∷ replaced n these rows)) → In r (x ∷ rows) ⊎ In r these
      go true rest j = elim (in_either r these rows j) [ inl k ↦ inr k | inr k ↦ inl (inr k) ]
      go false rest (inl q) = inl (inl q)
      go false rest (inr j) = elim (rest j) [ inl k ↦ inl (inr k) | inr k ↦ inr k ]

  numbered_in : (n : ℕ) (rows : List (Row L)) (r : Row L) → numbered n rows ≡ Some r → In r rows
  numbered_in n [] r e = absurd (some_none r (sym e))
  numbered_in n (x ∷ rows) r e = go (eqb x.number n) (numbered_in n rows r) e
    where
      go : (t : Bool) → (numbered n rows ≡ Some r → In r rows) → cond t (Some x) (numbered n rows) ≡ Some r → In r (x ∷ rows)
      go true rest q = inl (sym (some_is x r q))
      go false rest q = inr (rest q)

  abbrev Stood : Holding L → Row L → Type 0
  Stood board r = (r.number ≡ board.book.next) ⊎ ((s : Row L) × In s board.book.rows × (s.number ≡ r.number) × (s.booking ≡ r.booking))

  module _ (k : Kind L) (board : Holding L) where
    held_others : (r : Row L) → In r board.book.rows → (o : Option Refusal) (q : Option (Booking L)) → In r (hold_after k board o q).book.rows
    held_others r i (Some why) q = i
    held_others r i None None = i
    held_others r i None (Some x) = in_front r board.book.rows (row_of board.book.next x Held ∷ []) i

    held_stood : (r : Row L) (o : Option Refusal) (q : Option (Booking L)) → In r (hold_after k board o q).book.rows → Stood board r
    held_stood r (Some why) q i = inr (r, i, refl, refl)
    held_stood r None None i = inr (r, i, refl, refl)
    held_stood r None (Some x) i =
        elim (in_either r board.book.rows (row_of board.book.next x Held ∷ []) i) [
          | inl j ↦ inr (r, j, refl, refl)
          | inr (inl e) ↦ inl (ap (λ v. v.number) e)
          | inr (inr j) ↦ absurd j
        ]

    fate_others : (n : ℕ) (s : Row L) (f : Fate) (r : Row L) → In r board.book.rows → (n ≡ r.number → ⊥) → In r (fate_after k board n s f).book.rows
    fate_others n s (becomes t) r i o = in_replaced n (row_of s.number s.booking t ∷ []) board.book.rows r i o
    fate_others n s leaves r i o = in_replaced n [] board.book.rows r i o
    fate_others n s barred r i o = i

    fate_stood : (n : ℕ) (s : Row L) → numbered n board.book.rows ≡ Some s → (f : Fate) (r : Row L) → In r (fate_after k board n s f).book.rows → Stood board r
    fate_stood n s there (becomes t) r i =
        elim (from_replaced n (row_of s.number s.booking t ∷ []) board.book.rows r i) [
          | inl j ↦ inr (r, j, refl, refl)
          | inr (inl e) ↦ inr (s, numbered_in n board.book.rows s there, ap (λ v. v.number) (sym e), ap (λ v. v.booking) (sym e))
          | inr (inr j) ↦ absurd j
        ]
    fate_stood n s there leaves r i = elim (from_replaced n [] board.book.rows r i) [ inl j ↦ inr (r, j, refl, refl) | inr j ↦ absurd j ]
    fate_stood n s there barred r i = inr (r, i, refl, refl)

    moved_others : (event : Event) (n : ℕ) (r : Row L) → In r board.book.rows → (n ≡ r.number → ⊥) → (o : Option (Row L)) → In r (move_after k board event n o).book.rows
    moved_others event n r i o None = i
    moved_others event n r i o (Some s) = fate_others n s (fate event s.state) r i o

    moved_stood : (event : Event) (n : ℕ) (r : Row L) (o : Option (Row L)) → numbered n board.book.rows ≡ o → In r (move_after k board event n o).book.rows → Stood board r
    moved_stood event n r None e i = inr (r, i, refl, refl)
    moved_stood event n r (Some s) e i = fate_stood n s e (fate event s.state) r i

    others : (call : Call L) (r : Row L) → In r board.book.rows → (Moves call r.number → ⊥) → In r (after k board call).book.rows
    others (hold request policy) r i o = held_others r i (hold_check board.book request) (found_on k board request policy)
    others (move event n) r i o = moved_others event n r i o (numbered n board.book.rows)

    stood : (call : Call L) (r : Row L) → In r (after k board call).book.rows → Stood board r
    stood (hold request policy) r i = held_stood r (hold_check board.book request) (found_on k board request policy) i
    stood (move event n) r i = moved_stood event n r (numbered n board.book.rows) refl i

    -- where a booking stands, a load changes nothing
    refused_while : (f : Filing L) (bytes : List ℕ) (rows : List (Row L)) (r : Row L) → In r rows → load_refusal k f board.book.room rows bytes ≡ Some BookingStands
    refused_while f bytes [] r i = absurd i
    refused_while f bytes (x ∷ rows) r i = refl

    pub load_refused : (f : Filing L) (bytes : List ℕ) (r : Row L) → In r board.book.rows → load_check k f board bytes ≡ Some BookingStands
    load_refused f bytes r i = refused_while f bytes board.book.rows r i

    all_left : (f : Filing L) (bytes : List ℕ) (r : Row L) → In r board.book.rows → load_after k f board bytes ≡ board
    all_left f bytes r i = ap (λ o. unless o (with_book k (book_in f board.book.room bytes)) board) (load_refused f bytes r i)

pub stay_put : {L : Type 0} → StayPut L
stay_put = record { others_stay = others; none_changes = stood }

pub loads_leave : {L : Type 0} → LoadsLeave L
loads_leave k f board bytes r i = all_left k board f bytes r i
