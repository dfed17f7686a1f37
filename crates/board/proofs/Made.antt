-- A new board, from the numbers that are 0 where they are refused. Assumes nothing.
use Rattle.std.proofs.Common.{◌≡◌, ℕ, ◌*◌, ◌≤◌, Some, None, Option, Ok, Err, Result, is_ok, true, false, cond, sym, refl, ap, ◌∙◌, arith}
use Rattle.units.specs.Kinds.{Kind}
use Rattle.bookings.specs.declared.refusal.Refusal.{Refusal}
use Rattle.board.specs.Calls.{Holding, set_up_check, opened, made}
use Rattle.board.specs.Results as results
use Rattle.board.proofs.Checks.{allowed}

true_false : true ≡ false → ⊥
true_false e = let z : ◌≡◌ {A = ℕ} 1 0 = ap (λ b. cond b 1 0) e in omega arith

module _ {L : Type 0} (k : Kind L) (c h rows records : ℕ) (r : Result (Unit {0}) Refusal) (checked : r ≡ results.allowed (set_up_check k c h rows records)) where
  -- with these numbers the board is as it should be, and there is memory for it
  pub record New (c' h' room : ℕ) : Type 0 where
    pub made_is : made k c h rows records ≡ opened c' h' room
    pub rows_suffice : room ≤ rows
    pub records_suffice : 2 * room ≤ records

  by_check : (o : Option Refusal) → set_up_check k c h rows records ≡ o → (is_ok (results.allowed o) ≡ true → New c h rows) × (is_ok (results.allowed o) ≡ false → New 0 0 0)
  by_check None e =
      let a = allowed k c h rows records e in (
        λ _. record { made_is = ap (λ p. elim p as (λ _. Holding L) [ None ↦ opened c h rows | Some _ ↦ opened 0 0 0 ]) e; rows_suffice = omega arith; records_suffice = omega (arith, a.records_suffice) },
        λ b. absurd (true_false b),
      )
  by_check (Some why) e = (
    λ b. absurd (true_false (sym b)),
    λ _. record { made_is = ap (λ p. elim p as (λ _. Holding L) [ None ↦ opened c h rows | Some _ ↦ opened 0 0 0 ]) e; rows_suffice = omega arith; records_suffice = omega arith },
  )

  pub new_open : r ≡ Ok tt → New c h rows
  new_open e = (by_check (set_up_check k c h rows records) refl).0 (ap is_ok (sym checked ∙ e))

  pub new_closed : (why : Refusal) → r ≡ Err why → New 0 0 0
  new_closed why e = (by_check (set_up_check k c h rows records) refl).1 (ap is_ok (sym checked ∙ e))
