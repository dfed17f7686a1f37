-- How many members sets have, from which members they have. Assumes nothing.
use Rattle.std.specs.Prelude.{◌≡◌, ℕ, zero, suc, ◌+◌, ◌/◌, ◌%◌, ◌^◌, ◌≤◌, refl}
use Rattle.std.proofs.Common.{ap, ◌∙◌, arith, pow_pos}
use Rattle.std.specs.Int.Bits.{bit_or}
use Rattle.std.specs.Int.Count.{ones, ones_step}
use Rattle.std.proofs.lemmas.Nat.{ones_cat}
use Rattle.std.proofs.lemmas.Bool.Decides.{nat_tests}
use Rattle.units.specs.Sets.{bit, Member, without}
use Rattle.units.specs.Digits.{bit_lt, bit_first, bit_next, bit_zero, bit_or_lem, bit_without, bit_pow}

pub ones_zero : ones 0 ≡ 0
unfolding ones
ones_zero = refl

ones_one : ones 1 ≡ 1
unfolding ones
ones_one = refl

ones_pow : (t : ℕ) → ones (2 ^ t) ≡ 1
ones_pow t = ap ones (omega arith) ∙ ones_cat t 1 0 (pow_pos t) ∙ omega (arith, ones_one, ones_zero)

-- each number is in as many of the sets a and b as of the sets d and e
abbrev AsOften : ℕ → ℕ → ℕ → ℕ → Type 0
AsOften a b d e = (i : ℕ) → bit i a + bit i b ≡ bit i d + bit i e

counts_up_to : (most a b d e : ℕ) → a + b + d + e ≤ most → AsOften a b d e → ones a + ones b ≡ ones d + ones e
counts_up_to zero a b d e l h =
    let none : (x : ℕ) → x ≤ 0 → ones x ≡ 0 = λ x empty. ap ones (omega arith) ∙ ones_zero in
    omega (arith, none a (omega arith), none b (omega arith), none d (omega arith), none e (omega arith))
counts_up_to (suc most) a b d e l h =
    let first : a % 2 + b % 2 ≡ d % 2 + e % 2 = omega (arith, h 0, bit_first a, bit_first b, bit_first d, bit_first e) in
    let others : AsOften (a / 2) (b / 2) (d / 2) (e / 2) = λ i. omega (arith, h (suc i), bit_next i a, bit_next i b, bit_next i d, bit_next i e) in
    let counted = counts_up_to most (a / 2) (b / 2) (d / 2) (e / 2) (omega arith) others in
    omega (arith, ones_step a, ones_step b, ones_step d, ones_step e)

-- so a and b have as many members together as d and e
pub same_count : (a b d e : ℕ) → AsOften a b d e → ones a + ones b ≡ ones d + ones e
same_count a b d e h = counts_up_to (a + b + d + e) a b d e (omega arith) h

-- a set within another and what it lacks of it
pub split_count : (a b : ℕ) → ((i : ℕ) → Member i a → Member i b) → ones (without b a) + ones a ≡ ones b
split_count a b h =
    let counted = same_count (without b a) a b 0 (λ i. let held = h i in grind (arith, bit_without i b a, bit_zero i, bit_lt i a, bit_lt i b)) in
    omega (arith, ones_zero)

-- a set with one member more
pub one_more : (t a : ℕ) → bit t a ≡ 0 → ones (bit_or a (2 ^ t)) ≡ suc (ones a)
one_more t a h =
    let same : (i : ℕ) → i ≡ t → bit i a ≡ bit t a = λ i. ap (λ x. bit x a) in
    let counted = same_count (bit_or a (2 ^ t)) 0 a (2 ^ t) (λ i. let e = same i in grind (arith, nat_tests, bit_or_lem i a (2 ^ t), bit_pow i t, bit_zero i, bit_lt i a)) in
    omega (arith, ones_zero, ones_pow t)
