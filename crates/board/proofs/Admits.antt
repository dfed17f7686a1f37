-- Rows that may be added: what it says that a row is allowed, and that its booking fits in. Assumes nothing.
use Rattle.std.proofs.Common.{◌≡◌, ℕ, zero, suc, ◌+◌, ◌-◌, ◌<◌, ◌≤◌, Bool, true, false, ltb, leb, List, sym, refl, subst, inl, inr, arith}
use mathlib.Core.Bool.{So}
use Rattle.std.proofs.lemmas.Bool.{both_ways, leb-true, ltb-true, le-leb, lt-ltb, and_parts, and_from, cases_eq}
use Rattle.units.specs.Kinds.{Kind, Laws}
use Rattle.planning.specs.Search.{joined_over}
use Rattle.planning.proofs.Joins.{fits_is_clear}
use Rattle.bookings.specs.Bookings.{load_at, FitsBeside}
use Rattle.bookings.specs.declared.booking.Booking.{Booking}
use Rattle.bookings.specs.declared.row.Row.{Row}
use Rattle.bookings.specs.declared.row.State.{State}
use Rattle.bookings.specs.declared.row.State.TheVariants.{Blank, Confirmed, UnderWay, Held}
use Rattle.boardfile.specs.Faults.{settled, row_allowed, throughout, fits_in}
use Rattle.boardfile.specs.declared.header.Header.{Header}
use Rattle.board.specs.Keeping.{Proper}

-- THE RULES FOR ROWS

pub settled_not_blank : (s : State) → settled s ≡ true → s ≡ Blank → ⊥
settled_not_blank Blank t e = both_ways (settled Blank) refl t
settled_not_blank Confirmed t e = let z : ◌≡◌ {A = ℕ} 0 1 = cc in omega arith
settled_not_blank UnderWay t e = let z : ◌≡◌ {A = ℕ} 0 1 = cc in omega arith
settled_not_blank Held t e = both_ways (settled Held) refl t

-- the row keeps the rules, where the numbers from low on are to be had
pub record AllowedRow {L : Type 0} (k : Kind L) (header : Header) (low : ℕ) (r : Row L) : Type 0 where
  pub from_low : low ≤ r.number
  pub below_next : r.number < header.next
  pub has_minutes : r.booking.start < r.booking.end
  pub ends_in_time : r.booking.end ≤ header.horizon
  pub is_settled : settled r.state ≡ true
  pub takes_some : 1 ≤ k.size r.booking.claim
  pub clear_of_nothing : So (k.clear header.capacity r.booking.claim k.nothing)

module _ {L : Type 0} (k : Kind L) (header : Header) (low : ℕ) (r : Row L) where
  pub row_is_allowed : row_allowed k header low r ≡ true → AllowedRow k header low r
  row_is_allowed h =
      let x = r.booking in
      let from = and_parts (leb low r.number) _ h in
      let below = and_parts (ltb r.number header.next) _ from.1 in
      let minutes = and_parts (ltb x.start x.end) _ below.1 in
      let ends = and_parts (leb x.end header.horizon) _ minutes.1 in
      let state = and_parts (settled r.state) _ ends.1 in
      let size = and_parts (leb 1 (k.size x.claim)) _ state.1 in
      record {
        from_low = leb-true _ _ from.0;
        below_next = ltb-true _ _ below.0;
        has_minutes = ltb-true _ _ minutes.0;
        ends_in_time = leb-true _ _ ends.0;
        is_settled = state.0;
        takes_some = leb-true _ _ size.0;
        clear_of_nothing = size.1;
      }

  pub allowed_proper : AllowedRow k header low r → Proper k header.horizon r
  allowed_proper a = record { has_minutes = a.has_minutes; ends_in_time = a.ends_in_time; takes_some = a.takes_some; not_blank = settled_not_blank r.state a.is_settled }

-- MINUTE BY MINUTE

pub throughout_at : (test : ℕ → Bool) (m n : ℕ) → throughout test m n ≡ true → (j : ℕ) → m ≤ j → j < m + n → test j ≡ true
throughout_at test m zero h j l u = absurd (omega arith)
throughout_at test m (suc n) h j l u =
    let parts = and_parts (test m) (throughout test (suc m) n) h in
    elim (cases_eq m j) [ inl e ↦ subst (λ i. test i ≡ true) e parts.0 | inr o ↦ throughout_at test (suc m) n parts.1 j (omega arith) (omega arith) ]

pub throughout_from : (test : ℕ → Bool) (m n : ℕ) → ((j : ℕ) → m ≤ j → j < m + n → test j ≡ true) → throughout test m n ≡ true
throughout_from test m zero h = refl
throughout_from test m (suc n) h = and_from (test m) (throughout test (suc m) n) (h m (omega arith) (omega arith)) (throughout_from test (suc m) n (λ j l u. h j (omega arith) (omega arith)))

-- tests of which each holds where the other does are one
one_test : (a b : Bool) → (a ≡ true → b ≡ true) → (b ≡ true → a ≡ true) → a ≡ b
one_test true b f g = sym (f refl)
one_test false true f g = g refl
one_test false false f g = refl

module _ {L : Type 0} (k : Kind L) (c : ℕ) (others : List (Booking L)) (x : Booking L) where
  abbrev clear_at : ℕ → Bool
  clear_at m = k.clear c x.claim (load_at k c others m)

  pub fits_beside : fits_in k c others x ≡ true → FitsBeside k c others x
  fits_beside h m stood =
      let p = and_parts (leb x.start m) (ltb m x.end) stood in
      throughout_at clear_at x.start (x.end - x.start) h m (leb-true _ _ p.0) (omega (arith, ltb-true m x.end p.1, leb-true x.start m p.0))

  pub fits_from_beside : FitsBeside k c others x → fits_in k c others x ≡ true
  fits_from_beside h =
      throughout_from clear_at x.start (x.end - x.start) (λ j l u. h j (and_from (leb x.start j) (ltb j x.end) (le-leb x.start j l) (lt-ltb j x.end (omega arith))))

  -- a claim is clear of the joined loads of its minutes exactly when it fits in
  pub clear_is_fits : Laws k c → x.start < x.end → k.clear c x.claim (joined_over k (load_at k c others) x.start (x.end - x.start)) ≡ fits_in k c others x
  clear_is_fits laws some =
      let test = fits_is_clear k c laws (load_at k c others) x.claim x.start (x.end - x.start) (omega arith) in
      one_test _ _
      (λ h. throughout_from clear_at x.start (x.end - x.start) (test.1 h))
      (λ h. test.0 (throughout_at clear_at x.start (x.end - x.start) h))
