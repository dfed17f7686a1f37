-- What no check stands against: none applies to a request that may be asked, and none says that there is no gap. Assumes nothing.
use Rattle.std.proofs.Common.{◌≡◌, ℕ, ◌+◌, ◌≤◌, Bool, true, false, cond, not, ◌||◌, eqb, ltb, leb, length, Some, None, arith}
use Rattle.std.proofs.lemmas.Bool.{le-ltb, le-leb, lt-leb, ne_eqb, or_from, not_from_true}
use Rattle.planning.specs.declared.request.Request.{Request}
use Rattle.bookings.specs.Rows.{Book}
use Rattle.bookings.specs.declared.refusal.Refusal.TheVariants.{Duration, Wanted, Window, Full, NumbersUsedUp, NoGap}
use Rattle.board.specs.Calls.{hold_checks, hold_check, Askable}
use Rattle.board.proofs.Checks.{first_none}

not_zero : (n : ℕ) → 1 ≤ n → eqb n 0 ≡ false
not_zero n l = ne_eqb n 0 (λ e. omega arith)

pub askable : {L : Type 0} (book : Book L) (request : Request) → Askable book request → hold_check book request ≡ None
askable book request a =
    first_none (hold_checks book request) (
      not_zero request.duration a.some_minutes,
      (
        or_from (eqb request.wanted 0) (not (leb request.wanted book.capacity)) (not_zero request.wanted a.some_units) (not_from_true (leb request.wanted book.capacity) (le-leb _ _ a.no_more_than_there_are)),
        (
          or_from (ltb book.horizon request.deadline) (ltb request.deadline (request.ready + request.duration)) (le-ltb _ _ a.by_the_horizon) (le-ltb _ _ a.a_window),
          (lt-leb book.room (length book.rows) a.a_row_left, (le-ltb 99999 book.next a.a_number_left, tt)),
        ),
      ),
    )

no_gap_is_no_check : (a b c d e : Bool) → cond a (Some Duration) (cond b (Some Wanted) (cond c (Some Window) (cond d (Some Full) (cond e (Some NumbersUsedUp) None)))) ≡ Some NoGap → ⊥
no_gap_is_no_check true b c d e h = let z : ◌≡◌ {A = ℕ} 0 1 = cc in omega arith
no_gap_is_no_check false true c d e h = let z : ◌≡◌ {A = ℕ} 0 1 = cc in omega arith
no_gap_is_no_check false false true d e h = let z : ◌≡◌ {A = ℕ} 0 1 = cc in omega arith
no_gap_is_no_check false false false true e h = let z : ◌≡◌ {A = ℕ} 0 1 = cc in omega arith
no_gap_is_no_check false false false false true h = let z : ◌≡◌ {A = ℕ} 0 1 = cc in omega arith
no_gap_is_no_check false false false false false h = let z : ◌≡◌ {A = ℕ} 0 1 = cc in omega arith

pub no_gap_unchecked : {L : Type 0} (book : Book L) (request : Request) → hold_check book request ≡ Some NoGap → ⊥
no_gap_unchecked book request =
    no_gap_is_no_check (eqb request.duration 0) (eqb request.wanted 0 || not (leb request.wanted book.capacity)) (ltb book.horizon request.deadline || ltb request.deadline (request.ready + request.duration)) (leb book.room (length book.rows)) (ltb 99999 book.next)
