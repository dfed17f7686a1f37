-- What a fresh board says of a file. Assumes nothing.
use Rattle.std.proofs.Common.{◌≡◌, ℕ, ◌≤◌, Bool, cond, List, Some, None, Ok, Err, Option, refl, ap, ◌∙◌, ap₂}
use Rattle.std.specs.Option.{option_map}
use Rattle.std.proofs.lemmas.Bool.{le-ltb}
use Rattle.units.specs.Kinds.{Kind}
use Rattle.bookings.specs.declared.refusal.FileFault.{FileFault}
use Rattle.bookings.specs.declared.refusal.Refusal.{Refusal}
use Rattle.bookings.specs.declared.refusal.Refusal.TheVariants.{Capacity, File}
use Rattle.boardfile.specs.Files.{book_in}
use Rattle.boardfile.specs.Filings.{Filing}
use Rattle.boardfile.specs.Faults.{file_fault}
use Rattle.board.specs.Calls.{Holding, opened, made}
use Rattle.board.specs.Files.{check_answer, unless, with_book, load_answer, load_after}
use Rattle.board.specs.Results.{done_result}
use Rattle.office.specs.Telling.{free_before, told_by, told_as}

-- a board for one unit and one minute, with 256 rows, is open
pub fresh_is_open : {L : Type 0} (k : Kind L) (rows records : ℕ) → rows ≡ 256 → records ≡ 512 → 1 ≤ k.most → made k 1 1 rows records ≡ opened 1 1 256
fresh_is_open {L} k rows records er es h =
    ap₂ (λ (n m : ℕ). made k 1 1 n m) er es ∙ ap (λ (b : Bool). elim (cond b (Some Capacity) None) as (λ _. Holding L) [ None ↦ opened 1 1 256 | Some _ ↦ opened 0 0 0 ]) (le-ltb k.most 1 h)

module _ {L : Type 0} (k : Kind L) (f : Filing L) (bytes : List ℕ) (minute : ℕ) where
  accepted : (o : Option FileFault) (board : Holding L) (t : Unit {0}) → Ok t ≡ done_result {L = L} (check_answer (option_map File o)) → Ok (free_before k (unless (option_map File o) (with_book k (book_in f 256 bytes)) board).book minute) ≡ told_by k (book_in f 256 bytes) minute o
  accepted None board t e = refl
  accepted (Some why) board t e = cc

  refused : (o : Option FileFault) (why : Refusal) → Err why ≡ done_result {L = L} (check_answer (option_map File o)) → Err why ≡ told_by k (book_in f 256 bytes) minute o
  refused None why e = cc
  refused (Some fault) why e = cc

  -- what is told by the board that the file was loaded into
  module _ (board : Holding L) (fresh : board ≡ opened 1 1 256) where
    pub told_accepted : (after : Holding L) (free : Option ℕ) (t : Unit {0}) → Ok t ≡ done_result (load_answer k f board bytes) → after ≡ load_after k f board bytes → free ≡ free_before k after.book minute → Ok free ≡ told_as k f bytes minute
    told_accepted after free t e a is =
        ap (λ (o : Option ℕ). Ok o) (is ∙ ap (λ (b : Holding L). free_before k b.book minute) (a ∙ ap (λ (b : Holding L). load_after k f b bytes) fresh)) ∙ accepted (file_fault k f 256 bytes) (opened 1 1 256) t (e ∙ ap (λ (b : Holding L). done_result (load_answer k f b bytes)) fresh)

    pub told_refused : (why : Refusal) → Err why ≡ done_result (load_answer k f board bytes) → Err why ≡ told_as k f bytes minute
    told_refused why e = refused (file_fault k f 256 bytes) why (e ∙ ap (λ (b : Holding L). done_result (load_answer k f b bytes)) fresh)
