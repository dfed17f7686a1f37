-- What it says that no check applies. Assumes nothing.
use Rattle.std.proofs.Common.{◌≡◌, ℕ, ◌+◌, ◌*◌, ◌≤◌, Bool, true, false, cond, not, ◌||◌, eqb, ltb, leb, List, [], ◌∷◌, length, Some, None, refl, arith}
use Rattle.std.proofs.lemmas.Bool.{ltb-false, leb-true, leb-false, eqb-false, or_parts, not-false}
use Rattle.units.specs.Kinds.{Kind}
use Rattle.planning.specs.declared.request.Request.{Request}
use Rattle.bookings.specs.Rows.{Book}
use Rattle.bookings.proofs.Found.{some_none}
use Rattle.bookings.specs.Refusals.{first_that_applies}
use Rattle.board.specs.Calls.{set_up_checks, set_up_check, hold_checks, hold_check, Askable}

-- none of the checks applies
abbrev pub Passed : {Why : Type 0} → List (Bool × Why) → Type 0
Passed [] = Unit {0}
Passed (t ∷ ts) = (t.0 ≡ false) × Passed ts

pub none_applies : {Why : Type 0} (ts : List (Bool × Why)) → first_that_applies ts ≡ None → Passed ts
none_applies [] e = tt
none_applies (t ∷ ts) e = go t.0 (none_applies ts) e
  where
    go : (b : Bool) → (first_that_applies ts ≡ None → Passed ts) → cond b (Some t.1) (first_that_applies ts) ≡ None → (b ≡ false) × Passed ts
    go true rest e = absurd (some_none t.1 e)
    go false rest e = (refl, rest e)

pub first_none : {Why : Type 0} (ts : List (Bool × Why)) → Passed ts → first_that_applies ts ≡ None
first_none [] p = refl
first_none (t ∷ ts) p = rw p.0 (first_none ts p.1)

positive : (n : ℕ) → eqb n 0 ≡ false → 1 ≤ n
positive n t = let o : (n ≡ 0 → ⊥) = eqb-false n 0 t in omega arith

pub unchecked : {L : Type 0} (book : Book L) (request : Request) → hold_check book request ≡ None → Askable book request
unchecked book request e =
    let passed = none_applies (hold_checks book request) e in
    let wanted = or_parts (eqb request.wanted 0) (not (leb request.wanted book.capacity)) passed.1.0 in
    let window = or_parts (ltb book.horizon request.deadline) (ltb request.deadline (request.ready + request.duration)) passed.1.1.0 in
    record {
      some_minutes = positive request.duration passed.0;
      some_units = positive request.wanted wanted.0;
      no_more_than_there_are = leb-true _ _ (not-false (leb request.wanted book.capacity) wanted.1);
      by_the_horizon = ltb-false _ _ window.0;
      a_window = ltb-false _ _ window.1;
      a_row_left = leb-false book.room (length book.rows) passed.1.1.1.0;
      a_number_left = ltb-false _ _ passed.1.1.1.1.0;
    }

-- a board may be set up with these numbers
pub record Allowed {L : Type 0} (k : Kind L) (c h rows records : ℕ) : Type 0 where
  pub some_units : 1 ≤ c
  pub units_fit : c ≤ k.most
  pub some_minutes : 1 ≤ h
  pub minutes_fit : h ≤ 1048576
  pub some_rows : 1 ≤ rows
  pub rows_fit : rows ≤ 256
  pub records_suffice : 2 * rows ≤ records

pub allowed : {L : Type 0} (k : Kind L) (c h rows records : ℕ) → set_up_check k c h rows records ≡ None → Allowed k c h rows records
allowed k c h rows records e =
    let passed = none_applies (set_up_checks k c h rows records) e in
    let units = or_parts (eqb c 0) (ltb k.most c) passed.0 in
    let minutes = or_parts (eqb h 0) (ltb 1048576 h) passed.1.0 in
    let lent = or_parts (eqb rows 0) (ltb 256 rows || ltb records (2 * rows)) passed.1.1.0 in
    let most = or_parts (ltb 256 rows) (ltb records (2 * rows)) lent.1 in
    record {
      some_units = positive c units.0;
      units_fit = ltb-false _ _ units.1;
      some_minutes = positive h minutes.0;
      minutes_fit = ltb-false _ _ minutes.1;
      some_rows = positive rows lent.0;
      rows_fit = ltb-false _ _ most.0;
      records_suffice = ltb-false _ _ most.1;
    }
