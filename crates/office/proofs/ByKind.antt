-- What is told of a file by its own kind, and as numbers. Assumes nothing.
use Rattle.std.proofs.Common.{◌≡◌, ℕ, ◌<◌, ◌≤◌, Bool, true, false, cond, eqb, ltb, List, length, Some, None, Err, Option, sym, refl, ap, ◌∙◌, inl, inr, arith}
use Rattle.std.specs.Option.{unwrap_or}
use Rattle.std.proofs.lemmas.Bool.{lt-ltb, cases_order}
use Rattle.units.specs.Crews.{crew_kind}
use Rattle.units.specs.Kinds.{Kind}
use Rattle.units.specs.Stocks.{stock_kind}
use Rattle.bookings.specs.declared.refusal.FileFault.{FileFault}
use Rattle.bookings.specs.declared.refusal.FileFault.TheVariants.{Short}
use Rattle.bookings.specs.declared.refusal.Refusal.TheVariants.{File}
use Rattle.boardfile.specs.Bytes.{number_at}
use Rattle.boardfile.specs.Faults.{file_fault}
use Rattle.boardfile.specs.Files.{book_in}
use Rattle.boardfile.specs.Filings.{Filing, crew_filing, stock_filing}
use Rattle.office.specs.Office.{fault_code, check_as, no_answer, free_by, free_as, file_check, file_free}
use Rattle.office.specs.Telling.{told_by, told_as, file_told, check_of, free_of}

-- A KIND

module _ {L : Type 0} (k : Kind L) (f : Filing L) (bytes : List ℕ) (minute : ℕ) where
  -- a file with no whole header is refused, whatever its kind
  pub short_told : length bytes < 24 → told_as k f bytes minute ≡ Err (File Short)
  short_told l = rw (lt-ltb (length bytes) 24 l)

  check_told : check_of (told_as k f bytes minute) ≡ check_as k f bytes
  check_told = go (file_fault k f 256 bytes)
    where
      go : (o : Option FileFault) → check_of (told_by k (book_in f 256 bytes) minute o) ≡ fault_code o
      go None = refl
      go (Some why) = refl

  free_told : free_of (told_as k f bytes minute) ≡ free_as k f bytes minute
  free_told = go (file_fault k f 256 bytes)
    where
      in_time : (b : Bool) (n : ℕ) → unwrap_or (cond b (Some n) None) no_answer ≡ cond b n no_answer
      in_time true n = refl
      in_time false n = refl

      go : (o : Option FileFault) → free_of (told_by k (book_in f 256 bytes) minute o) ≡ free_by k (book_in f 256 bytes) minute o
      go None = in_time (ltb minute (book_in f 256 bytes).horizon) _
      go (Some why) = refl

-- THE FILE'S OWN KIND

-- one of two answers, where the test is known of files that have four bytes, and shorter files have one answer
by_kind : {X : Type 0} (bytes : List ℕ) (says is : Bool) (x y : X) → (4 ≤ length bytes → says ≡ is) → (length bytes < 24 → x ≡ y) → cond says x y ≡ cond is x y
by_kind bytes says is x y known short =
    elim (cases_order (length bytes) 24) [
      | inl e ↦ ap (λ b. cond b x y) (known (omega arith))
      | inr (inl l) ↦ either says is (short l)
      | inr (inr l) ↦ ap (λ b. cond b x y) (known (omega arith))
    ]
  where
    either : (a b : Bool) → x ≡ y → cond a x y ≡ cond b x y
    either true true e = refl
    either true false e = e
    either false true e = sym e
    either false false e = refl

pub told_own : (bytes : List ℕ) (minute : ℕ) (says : Bool) → (4 ≤ length bytes → says ≡ eqb (number_at 0 4 bytes) stock_filing.code) → cond says (told_as stock_kind stock_filing bytes minute) (told_as crew_kind crew_filing bytes minute) ≡ file_told bytes minute
told_own bytes minute says known =
    by_kind bytes says (eqb (number_at 0 4 bytes) stock_filing.code) _ _ known (λ l. short_told stock_kind stock_filing bytes minute l ∙ sym (short_told crew_kind crew_filing bytes minute l))

-- the numbers of one of two answers
number_of : {X : Type 0} (number : X → ℕ) (is : Bool) (x y : X) (m n : ℕ) → number x ≡ m → number y ≡ n → number (cond is x y) ≡ cond is m n
number_of number true x y m n e d = e
number_of number false x y m n e d = d

pub check_own : (bytes : List ℕ) (minute : ℕ) → check_of (file_told bytes minute) ≡ file_check bytes
check_own bytes minute = number_of check_of (eqb (number_at 0 4 bytes) stock_filing.code) _ _ _ _ (check_told stock_kind stock_filing bytes minute) (check_told crew_kind crew_filing bytes minute)

pub free_own : (bytes : List ℕ) (minute : ℕ) → free_of (file_told bytes minute) ≡ file_free bytes minute
free_own bytes minute = number_of free_of (eqb (number_at 0 4 bytes) stock_filing.code) _ _ _ _ (free_told stock_kind stock_filing bytes minute) (free_told crew_kind crew_filing bytes minute)
