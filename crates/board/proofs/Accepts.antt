-- What is accepted from a file: a header and rows that keep the rules, as those of a sound board do. Assumes nothing.
use Rattle.std.proofs.Common.{◌≡◌, ℕ, suc, ◌<◌, ◌≤◌, Bool, true, false, cond, ltb, leb, List, [], ◌∷◌, ◌++◌, length, Some, None, Option, sym, refl, ap, subst, append_assoc, arith}
use mathlib.Core.Bool.{So}
use Rattle.std.proofs.lemmas.Bool.{le-leb, lt-ltb, le-ltb, eq-eqb, and_from, not_from_true}
use Rattle.units.specs.Kinds.{Kind, Laws}
use Rattle.bookings.specs.Bookings.{stands, standing, put_all, AllClear, Sound, FitsBeside}
use Rattle.bookings.specs.Refusals.{first_that_applies}
use Rattle.bookings.specs.Rows.{bookings, Numbered}
use Rattle.bookings.specs.declared.booking.Booking.{Booking}
use Rattle.bookings.specs.declared.refusal.FileFault.{FileFault}
use Rattle.bookings.specs.declared.refusal.FileFault.TheVariants as fault
use Rattle.bookings.specs.declared.row.Row.{Row}
use Rattle.boardfile.specs.Faults.{between, header_checks, row_allowed, fits_in, rows_fault}
use Rattle.boardfile.specs.Files.{header_in, file_length}
use Rattle.boardfile.specs.Filings.{Filing}
use Rattle.boardfile.specs.declared.header.Header.{Header}
use Rattle.boardfile.proofs.Rewritten.{AllSettled}
use Rattle.board.specs.Keeping.{AllProper}
use Rattle.board.proofs.Admits.{AllowedRow, fits_from_beside}
use Rattle.board.proofs.Checks.{first_none}
use Rattle.board.proofs.Loads.{AllowedHeader}

-- THE HEADER

is_between : (low high n : ℕ) → low ≤ n → n ≤ high → between low high n ≡ true
is_between low high n l h = and_from (leb low n) (leb n high) (le-leb low n l) (le-leb n high h)

module _ {L : Type 0} (k : Kind L) (f : Filing L) (room : ℕ) where
  pub header_passes : (bytes : List ℕ) → AllowedHeader k f room (length bytes) (header_in bytes) → first_that_applies (header_checks k f room bytes) ≡ None
  header_passes bytes a =
      let header = header_in bytes in
      let numbers = and_from _ _ (is_between 1 100000 header.next a.some_number a.numbers_fit) (eq-eqb header.offset 24 a.offset_is) in
      let minutes = and_from _ _ (is_between 1 1048576 header.horizon a.some_minutes a.minutes_fit) numbers in
      let units = and_from _ _ (is_between 1 k.most header.capacity a.some_units a.units_fit) minutes in
      let kind = and_from _ _ (eq-eqb header.kind f.code a.kind_is) units in
      first_none (header_checks k f room bytes) (le-ltb (length bytes) 24 (omega (arith, a.length_is)), (not_from_true _ kind, (not_from_true _ (eq-eqb (length bytes) (file_length header.count) a.length_is), (le-ltb room header.count a.rows_fit, tt))))

-- A ROW

pub row_passes : {L : Type 0} (k : Kind L) (header : Header) (low : ℕ) (r : Row L) → AllowedRow k header low r → row_allowed k header low r ≡ true
row_passes k header low r a =
    let x = r.booking in
    let size = and_from _ _ (le-leb 1 (k.size x.claim) a.takes_some) a.clear_of_nothing in
    let state = and_from _ _ a.is_settled size in
    let ends = and_from _ _ (le-leb x.end header.horizon a.ends_in_time) state in
    let minutes = and_from _ _ (lt-ltb x.start x.end a.has_minutes) ends in
    let below = and_from _ _ (lt-ltb r.number header.next a.below_next) minutes in
    and_from _ _ (le-leb low r.number a.from_low) below

-- BOOKINGS BENEATH OTHERS

module _ {L : Type 0} (k : Kind L) (c : ℕ) where
  -- a claim that is put on when its turn comes is clear of those before it
  clear_in_turn : (l : L) (ps : List L) (p : L) (qs : List L) → AllClear k c l (ps ++ (p ∷ qs)) → So (k.clear c p (put_all k c l ps))
  clear_in_turn l [] p qs h = h.0
  clear_in_turn l (q ∷ ps) p qs h = clear_in_turn (k.put c q l) ps p qs h.1

  -- and of the load that they were put on
  clear_at_first : Laws k c → (l : L) (ps : List L) (p : L) (qs : List L) → AllClear k c l (ps ++ (p ∷ qs)) → So (k.clear c p l)
  clear_at_first laws l [] p qs h = h.0
  clear_at_first laws l (q ∷ ps) p qs h = (laws.put_turned q p l h.0 (clear_at_first laws (k.put c q l) ps p qs h.1)).0

  standing_both : (xs ys : List (Booking L)) (m : ℕ) → standing (xs ++ ys) m ≡ standing xs m ++ standing ys m
  standing_both [] ys m = refl
  standing_both (x ∷ xs) ys m = go (stands x m) (standing_both xs ys m)
    where
      go : (t : Bool) → standing (xs ++ ys) m ≡ standing xs m ++ standing ys m → cond t (x.claim ∷ standing (xs ++ ys) m) (standing (xs ++ ys) m) ≡ cond t (x.claim ∷ standing xs m) (standing xs m) ++ standing ys m
      go true e = ap (λ v. x.claim ∷ v) e
      go false e = e

  module _ (above : List (Booking L)) (x : Booking L) (below : List (Booking L)) (sound : Sound k c (above ++ (x ∷ below))) where
    in_its_minute : (m : ℕ) → So (stands x m) → AllClear k c k.nothing (standing above m ++ (x.claim ∷ standing below m))
    in_its_minute m stood = subst (λ t. AllClear k c k.nothing (standing above m ++ cond t (x.claim ∷ standing below m) (standing below m))) stood (subst (AllClear k c k.nothing) (standing_both above (x ∷ below) m) (sound m))

    pub fits_beneath : FitsBeside k c above x
    fits_beneath m stood = clear_in_turn k.nothing (standing above m) x.claim (standing below m) (in_its_minute m stood)

    pub clear_alone : Laws k c → x.start < x.end → So (k.clear c x.claim k.nothing)
    clear_alone laws some =
        let m = x.start in
        clear_at_first laws k.nothing (standing above m) x.claim (standing below m) (in_its_minute m (and_from (leb m m) (ltb m x.end) (le-leb m m (omega arith)) (lt-ltb m x.end some)))

-- ROWS

pub numbers_in_order : {L : Type 0} (low next : ℕ) (rows : List (Row L)) → Numbered low next rows → low ≤ next
numbers_in_order low next [] n = n
numbers_in_order low next (r ∷ rows) n = omega (arith, n.0, numbers_in_order (suc r.number) next rows n.1)

module _ {L : Type 0} (k : Kind L) (header : Header) where
  -- every row is allowed at its turn
  abbrev pub AllAllowed : ℕ → List (Row L) → Type 0
  AllAllowed low [] = Unit {0}
  AllAllowed low (r ∷ rows) = AllowedRow k header low r × AllAllowed (suc r.number) rows

  pub all_allowed : Laws k header.capacity → (low : ℕ) (above : List (Booking L)) (rows : List (Row L)) → Numbered low header.next rows → AllProper k header.horizon rows → AllSettled rows → Sound k header.capacity (above ++ bookings rows) → AllAllowed low rows
  all_allowed laws low above [] n p s sound = tt
  all_allowed laws low above (r ∷ rows) n p s sound =
      let x = r.booking in (
        record {
          from_low = n.0;
          below_next = numbers_in_order (suc r.number) header.next rows n.1;
          has_minutes = p.0.has_minutes;
          ends_in_time = p.0.ends_in_time;
          is_settled = s.0;
          takes_some = p.0.takes_some;
          clear_of_nothing = clear_alone k header.capacity above x (bookings rows) sound laws p.0.has_minutes;
        },
        all_allowed laws (suc r.number) (above ++ (x ∷ [])) rows n.1 p.1 s.1 (subst (Sound k header.capacity) (sym (append_assoc above (x ∷ []) (bookings rows))) sound),
      )

  pub rows_pass : (low : ℕ) (above : List (Booking L)) (i : ℕ) (rows : List (Row L)) → AllAllowed low rows → Sound k header.capacity (above ++ bookings rows) → rows_fault k header low above i rows ≡ None
  rows_pass low above i [] a sound = refl
  rows_pass low above i (r ∷ rows) a sound =
      let x = r.booking in
      let fits = fits_from_beside k header.capacity above x (fits_beneath k header.capacity above x (bookings rows) sound) in
      let rest = rows_pass (suc r.number) (above ++ (x ∷ [])) (suc i) rows a.1 (subst (Sound k header.capacity) (sym (append_assoc above (x ∷ []) (bookings rows))) sound) in
      no_fault (row_allowed k header low r) (fits_in k header.capacity above x) _ (fault.Clash i) (fault.Row i) (row_passes k header low r a.0) fits rest
    where
      no_fault : (t u : Bool) (more : Option FileFault) (clash row : FileFault) → t ≡ true → u ≡ true → more ≡ None → cond t (cond u more (Some clash)) (Some row) ≡ None
      no_fault t u more clash row p q e = rw (p, q) e
