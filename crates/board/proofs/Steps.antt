-- What every call keeps, by the cases of the calls. Assumes nothing.
use Rattle.std.proofs.Common.{◌≡◌, ℕ, Some, None, Option, refl, arith}
use Rattle.units.specs.Kinds.{Kind, Lawful}
use Rattle.planning.specs.Policies.{Preference}
use Rattle.planning.specs.declared.request.Request.{Request}
use Rattle.bookings.specs.Rows.{numbered}
use Rattle.bookings.specs.Table.{Fate, becomes, leaves, barred, fate}
use Rattle.bookings.specs.declared.booking.Booking.{Booking}
use Rattle.bookings.specs.declared.event.Event.{Event}
use Rattle.bookings.specs.declared.event.Event.TheVariants.{Confirm, Release, Cancel, Begin, Finish}
use Rattle.bookings.specs.declared.refusal.Refusal.{Refusal}
use Rattle.bookings.specs.declared.row.Row.{Row}
use Rattle.bookings.specs.declared.row.State.{State}
use Rattle.bookings.specs.declared.row.State.TheVariants.{Blank, Confirmed, UnderWay, Held}
use Rattle.board.specs.Calls.{Holding, Call, hold, move, hold_check, found_on, hold_after, fate_after, move_after, after}
use Rattle.board.specs.Keeping.{Kept}
use Rattle.board.specs.FileTheorems.{LoadsKeep}
use Rattle.board.specs.Theorems.{CallsKeep}
use Rattle.board.proofs.Keeps.{made_kept, given_kept, state_kept, gone_kept}
use Rattle.board.proofs.Loads.{load_kept}

-- no event makes a booking's row blank
pub not_made_blank : (event : Event) (s t : State) → fate event s ≡ becomes t → t ≡ Blank → ⊥
not_made_blank Confirm Held t e b = let z : ◌≡◌ {A = ℕ} 0 1 = cc in omega arith
not_made_blank Confirm Confirmed t e b = let z : ◌≡◌ {A = ℕ} 0 1 = cc in omega arith
not_made_blank Confirm UnderWay t e b = let z : ◌≡◌ {A = ℕ} 0 1 = cc in omega arith
not_made_blank Confirm Blank t e b = let z : ◌≡◌ {A = ℕ} 0 1 = cc in omega arith
not_made_blank Release Held t e b = let z : ◌≡◌ {A = ℕ} 0 1 = cc in omega arith
not_made_blank Release Confirmed t e b = let z : ◌≡◌ {A = ℕ} 0 1 = cc in omega arith
not_made_blank Release UnderWay t e b = let z : ◌≡◌ {A = ℕ} 0 1 = cc in omega arith
not_made_blank Release Blank t e b = let z : ◌≡◌ {A = ℕ} 0 1 = cc in omega arith
not_made_blank Cancel Held t e b = let z : ◌≡◌ {A = ℕ} 0 1 = cc in omega arith
not_made_blank Cancel Confirmed t e b = let z : ◌≡◌ {A = ℕ} 0 1 = cc in omega arith
not_made_blank Cancel UnderWay t e b = let z : ◌≡◌ {A = ℕ} 0 1 = cc in omega arith
not_made_blank Cancel Blank t e b = let z : ◌≡◌ {A = ℕ} 0 1 = cc in omega arith
not_made_blank Begin Held t e b = let z : ◌≡◌ {A = ℕ} 0 1 = cc in omega arith
not_made_blank Begin Confirmed t e b = let z : ◌≡◌ {A = ℕ} 0 1 = cc in omega arith
not_made_blank Begin UnderWay t e b = let z : ◌≡◌ {A = ℕ} 0 1 = cc in omega arith
not_made_blank Begin Blank t e b = let z : ◌≡◌ {A = ℕ} 0 1 = cc in omega arith
not_made_blank Finish Held t e b = let z : ◌≡◌ {A = ℕ} 0 1 = cc in omega arith
not_made_blank Finish Confirmed t e b = let z : ◌≡◌ {A = ℕ} 0 1 = cc in omega arith
not_made_blank Finish UnderWay t e b = let z : ◌≡◌ {A = ℕ} 0 1 = cc in omega arith
not_made_blank Finish Blank t e b = let z : ◌≡◌ {A = ℕ} 0 1 = cc in omega arith

module _ {L : Type 0} (k : Kind L) (lawful : Lawful k) (floor : L) (board : Holding L) (kept : Kept k floor board) where
  hold_kept : (request : Request) (policy : Preference) → Kept k floor (after k board (hold request policy))
  hold_kept request policy = go (hold_check board.book request) refl (found_on k board request policy) refl
    where
      go : (o : Option Refusal) → hold_check board.book request ≡ o → (q : Option (Booking L)) → found_on k board request policy ≡ q → Kept k floor (hold_after k board o q)
      go (Some why) e q f = kept
      go None e None f = kept
      go None e (Some x) f = given_kept k lawful floor board kept request policy e x f

  move_kept : (event : Event) (n : ℕ) → Kept k floor (after k board (move event n))
  move_kept event n = go (numbered n board.book.rows) refl
    where
      by_fate : (r : Row L) → numbered n board.book.rows ≡ Some r → (f : Fate) → fate event r.state ≡ f → Kept k floor (fate_after k board n r f)
      by_fate r e (becomes s) f = state_kept k lawful floor board kept n r e s (not_made_blank event r.state s f)
      by_fate r e leaves f = gone_kept k lawful floor board kept n r e
      by_fate r e barred f = kept

      go : (o : Option (Row L)) → numbered n board.book.rows ≡ o → Kept k floor (move_after k board event n o)
      go None e = kept
      go (Some r) e = by_fate r e (fate event r.state) refl

  pub after_kept : (call : Call L) → Kept k floor (after k board call)
  after_kept (hold request policy) = hold_kept request policy
  after_kept (move event n) = move_kept event n

pub calls_keep : {L : Type 0} → CallsKeep L
calls_keep = record {
  new = λ k lawful c h rows records. made_kept k lawful k.nothing c h rows records refl;
  next = λ k lawful board kept call. after_kept k lawful k.nothing board kept call;
}

pub loads_keep : {L : Type 0} → LoadsKeep L
loads_keep k lawful f board kept bytes = load_kept k f lawful k.nothing board kept bytes
