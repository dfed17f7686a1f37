-- Sets by their members: when each operation has a member, and that sets with the same members are equal. Assumes nothing.
use Rattle.std.specs.Prelude.{◌≡◌, ℕ, zero, suc, ◌+◌, ◌-◌, ◌*◌, ◌/◌, ◌%◌, ◌^◌, ◌<◌, ◌≤◌, min, max, Bool, true, false, cond, ◌&&◌, ◌==◌, nat_lt, refl}
use Rattle.std.proofs.Common.{sym, ap, ap₂, ◌∙◌, pow-suc, div-one, mod-eq_of_lt, add-one, arith, pow_mono, shr-shr}
use Rattle.std.proofs.Math.Nat.{div-eq_of_lt, mod-one, zero-div}
use Rattle.std.proofs.Math.Arith.{bin_ind, digits_div, digits_mod}
use Rattle.std.specs.Int.Bits.{bit_and, bit_or, and_step, or_step}
use Rattle.std.proofs.lemmas.Nat.{and_le_l, and_comm, and_mask, mod-pow-add}
use Rattle.std.proofs.lemmas.Bool.Decides.{nat_tests}
use Rattle.units.specs.Sets.{bit, without, those}

pub bit_lt : (i m : ℕ) → bit i m < 2
unfolding bit
bit_lt i m = omega arith

pub bit_first : (m : ℕ) → bit 0 m ≡ m % 2
unfolding bit
bit_first m = ap (λ x. x % 2) (div-one m)

pub bit_next : (i m : ℕ) → bit (suc i) m ≡ bit i (m / 2)
unfolding bit
bit_next i m = ap (λ x. x % 2) (sym (shr-shr m 1 i ∙ ap (λ x. m / 2 ^ x) (omega arith)))

pub bit_zero : (i : ℕ) → bit i 0 ≡ 0
unfolding bit
bit_zero i = ap (λ x. x % 2) (zero-div (2 ^ i))

-- a number below 2 ^ w has no member from w on
pub bit_beyond : (w i m : ℕ) → m < 2 ^ w → w ≤ i → bit i m ≡ 0
unfolding bit
bit_beyond w i m h l = ap (λ x. x % 2) (div-eq_of_lt (omega (arith, pow_mono {i = w} {j = i} l)))

from_none : (b : ℕ) → ((i : ℕ) → 0 ≡ bit i b) → 0 ≡ b
from_none = bin_ind (λ b. ((i : ℕ) → 0 ≡ bit i b) → 0 ≡ b) (λ h. refl) (λ b ih h. omega (arith, ih (λ i. h (suc i) ∙ bit_next i b), h 0, bit_first b))

-- sets with the same members are equal
pub by_bits : (a b : ℕ) → ((i : ℕ) → bit i a ≡ bit i b) → a ≡ b
by_bits =
    bin_ind (λ a. (b : ℕ) → ((i : ℕ) → bit i a ≡ bit i b) → a ≡ b) (λ b h. from_none b (λ i. sym (bit_zero i) ∙ h i))
    (λ a ih b h. omega (arith, ih (b / 2) (λ i. sym (bit_next i a) ∙ h (suc i) ∙ bit_next i b), h 0, bit_first a, bit_first b))

-- an operation that works digit by digit
module _ (op f : ℕ → ℕ → ℕ) (small : (x y : ℕ) → x < 2 → y < 2 → f x y < 2)
    (step : (a b : ℕ) → op a b ≡ op (a / 2) (b / 2) * 2 + f (a % 2) (b % 2)) where
  lowest_digit : (a b : ℕ) → op a b % 2 ≡ f (a % 2) (b % 2)
  lowest_digit a b = ap (λ x. x % 2) (step a b) ∙ digits_mod (op (a / 2) (b / 2)) (small (a % 2) (b % 2) (omega arith) (omega arith))

  other_digits : (a b : ℕ) → op a b / 2 ≡ op (a / 2) (b / 2)
  other_digits a b = ap (λ x. x / 2) (step a b) ∙ digits_div (op (a / 2) (b / 2)) (small (a % 2) (b % 2) (omega arith) (omega arith))

  bit_op : (i a b : ℕ) → bit i (op a b) ≡ f (bit i a) (bit i b)
  bit_op zero a b = bit_first (op a b) ∙ lowest_digit a b ∙ sym (ap₂ f (bit_first a) (bit_first b))
  bit_op (suc i) a b =
      bit_next i (op a b) ∙ ap (bit i) (other_digits a b) ∙ bit_op i (a / 2) (b / 2) ∙ sym (ap₂ f (bit_next i a) (bit_next i b))

pub bit_and_lem : (i a b : ℕ) → bit i (bit_and a b) ≡ min (bit i a) (bit i b)
bit_and_lem = bit_op bit_and min (λ x y h l. omega arith) and_step

pub bit_or_lem : (i a b : ℕ) → bit i (bit_or a b) ≡ max (bit i a) (bit i b)
bit_or_lem = bit_op bit_or max (λ x y h l. omega arith) or_step

without_step : (a b : ℕ) → without a b ≡ without (a / 2) (b / 2) * 2 + (a % 2 - b % 2)
unfolding without
without_step a b = omega (arith, and_step a b, and_le_l (a / 2) (b / 2))

pub bit_without : (i a b : ℕ) → bit i (without a b) ≡ bit i a - bit i b
bit_without = bit_op without (λ x y. x - y) (λ x y h l. omega arith) without_step

pub without_le : (a b : ℕ) → without a b ≤ a
unfolding without
without_le a b = omega arith

pub bit_pow : (i t : ℕ) → bit i (2 ^ t) ≡ cond (i == t) 1 0
bit_pow zero zero = bit_first 1
bit_pow zero (suc t) = bit_first (2 ^ suc t) ∙ grind (arith, nat_tests, pow-suc 2 t)
bit_pow (suc i) zero = bit_next i 1 ∙ bit_zero i ∙ grind (arith, nat_tests)
bit_pow (suc i) (suc t) = bit_next i (2 ^ suc t) ∙ ap (bit i) (omega (arith, pow-suc 2 t)) ∙ bit_pow i t ∙ grind (arith, nat_tests)

-- the members below w
pub bit_below : (i w m : ℕ) → bit i (m % 2 ^ w) ≡ cond (nat_lt i w) (bit i m) 0
bit_below i zero m = ap (bit i) (mod-one m) ∙ bit_zero i ∙ grind (arith, nat_tests)
bit_below zero (suc w) m = bit_first (m % 2 ^ suc w) ∙ grind (arith, nat_tests, mod-pow-add m w 1, ap (λ x. m % 2 ^ x) (add-one w), bit_first m)
bit_below (suc i) (suc w) m =
    let split : m % 2 ^ suc w ≡ (m / 2 % 2 ^ w) * 2 + m % 2 = sym (ap (λ x. m % 2 ^ x) (add-one w)) ∙ mod-pow-add m w 1 in
    bit_next i (m % 2 ^ suc w) ∙ ap (bit i) (omega arith) ∙ bit_below i w (m / 2) ∙ grind (arith, nat_tests, bit_next i m)

-- a member that is there on a condition
bit_if : (t : Bool) (i w : ℕ) → bit i (cond t (2 ^ w) 0) ≡ cond (t && i == w) 1 0
bit_if true i w = bit_pow i w
bit_if false i w = bit_zero i

pub bit_those : (i w : ℕ) (test : ℕ → Bool) → bit i (those w test) ≡ cond (nat_lt i w && test i) 1 0
unfolding those
bit_those i zero test = bit_zero i ∙ grind (arith, nat_tests)
bit_those i (suc w) test =
    let same : i ≡ w → test i ≡ test w = ap test in
    bit_or_lem i (cond (test w) (2 ^ w) 0) (those w test) ∙ ap₂ max (bit_if (test w) i w) (bit_those i w test) ∙ grind (arith, nat_tests)

-- `!a` and `x & !a` in a word of w digits
not_is : (w a : ℕ) → bit_and a (2 ^ w - 1) ≡ a → (2 ^ w - 1) - a ≡ without (2 ^ w - 1) a
unfolding without
not_is w a e = omega (arith, and_comm (2 ^ w - 1) a)

pub and_not : (w x a : ℕ) → x < 2 ^ w → a < 2 ^ w → bit_and x ((2 ^ w - 1) - a) ≡ without x a
and_not w x a h l =
    let fits : (y : ℕ) → y < 2 ^ w → bit_and y (2 ^ w - 1) ≡ y = λ y lt. and_mask y w ∙ mod-eq_of_lt lt in
    ap (bit_and x) (not_is w a (fits a l))
    ∙ by_bits _ _ (λ i. simp (bit_and_lem, bit_without) (omega (arith, bit_lt i x, bit_lt i a, bit_lt i (2 ^ w - 1), simp bit_and_lem at (ap (bit i) (fits x h)))))
