-- The n lowest members of a set: taking the first one that is left n times yields them, and no other set has them. Assumes nothing.
use Rattle.std.specs.Prelude.{◌≡◌, ℕ, zero, suc, ◌/◌, ◌%◌, ◌^◌, ◌<◌, ◌≤◌, ◌&&◌, ◌==◌, count_ones, nat_lt, refl}
use Rattle.std.proofs.Common.{sym, ap, ◌∙◌, subst, pow-suc, arith}
use Rattle.std.specs.Int.Bits.{bit_or}
use Rattle.std.specs.Int.Count.{count_trailing_zeros, under}
use Rattle.std.proofs.lemmas.Bool.Decides.{nat_tests}
use Rattle.units.specs.Sets.{bit, Member, without, lowest, AreLowest}
use Rattle.units.specs.Digits.{bit_lt, bit_first, bit_next, bit_zero, bit_beyond, by_bits, bit_or_lem, bit_without, without_le, bit_pow, bit_below, bit_those}
use Rattle.units.specs.Counts.{ones_zero, split_count, one_more}

-- t is the first member of m, and below w
pub record First (w m t : ℕ) : Type 0 where
  pub below : t < w
  pub there : Member t m
  pub none_before : (i : ℕ) → i < t → bit i m ≡ 0

-- of a set whose lowest digit is d
first_under : (w m t d : ℕ) → m % 2 ≡ d → (d ≡ 0 → First w (m / 2) t) → First (suc w) m (under d t)
first_under w m t zero e others = record { below = omega (arith, (others refl).below); there = bit_next t m ∙ (others refl).there; none_before = before }
  where
    before : (i : ℕ) → i < suc t → bit i m ≡ 0
    before zero l = bit_first m ∙ e
    before (suc i) l = bit_next i m ∙ (others refl).none_before i (omega arith)
first_under w m t (suc d) e others = record { below = omega arith; there = bit_first m ∙ omega arith; none_before = λ i l. absurd (omega arith) }

first_member : (w m : ℕ) → 0 < m → m < 2 ^ w → First w m (count_trailing_zeros w m)
unfolding count_trailing_zeros
first_member zero m some h = absurd (omega arith)
first_member (suc w) m some h =
    first_under w m (count_trailing_zeros w (m / 2)) (m % 2) refl (λ e. first_member w (m / 2) (omega arith) (omega (arith, pow-suc 2 w)))

-- ---- they are taken one at a time

pub lowest_none : (m : ℕ) → AreLowest 0 m 0
lowest_none m = record {
  within = λ i h. absurd (omega (arith, bit_zero i));
  many = ones_zero;
  downward = λ i j l h k. absurd (omega (arith, bit_zero j));
}

-- where m has more than the n that were taken, one is left
pub first_left : (n m q : ℕ) → AreLowest n m q → n < count_ones m → m < 2 ^ 64 → First 64 (without m q) (count_trailing_zeros 64 (without m q))
first_left n m q low more h =
    let left = split_count q m low.within in
    let none : without m q ≡ 0 → count_ones (without m q) ≡ 0 = λ e. ap count_ones e ∙ ones_zero in
    first_member 64 (without m q) (grind (arith, low.many)) (omega (arith, without_le m q))

pub lowest_next : (n m q t : ℕ) → AreLowest n m q → First 64 (without m q) t → AreLowest (suc n) m (bit_or q (2 ^ t))
lowest_next n m q t low next = record {
  within = λ i h.
      let inside = low.within i in
      let same : i ≡ t → bit i m ≡ bit t m = ap (λ x. bit x m) in
      grind (arith, nat_tests, bit_or_lem i q (2 ^ t), bit_pow i t, bit_without t m q, next.there, bit_lt i q, bit_lt t m);
  many = one_more t q (omega (arith, bit_without t m q, next.there, bit_lt t m)) ∙ ap suc low.many;
  downward = λ i j l h k.
      let inside = low.downward i j l in
      let passed = next.none_before i in
      grind (arith, nat_tests, bit_or_lem i q (2 ^ t), bit_or_lem j q (2 ^ t), bit_pow i t, bit_pow j t, bit_without i m q, bit_lt i q, bit_lt j q);
}

-- ---- no other set has them

-- q with k has all that m has below k, and k
few_below : (n m q k : ℕ) → AreLowest n m q → Member k q → count_ones (m % 2 ^ k) < n
few_below n m q k low here =
    let with-k = one_more k (m % 2 ^ k) (bit_below k k m ∙ grind (arith, nat_tests)) in
    let fewer = split_count (bit_or (m % 2 ^ k) (2 ^ k)) q (λ i e.
    let down = λ (l : i < k). low.downward i k l here in
    let same : i ≡ k → bit i q ≡ bit k q = ap (λ x. bit x q) in
    grind (arith, nat_tests, bit_or_lem i (m % 2 ^ k) (2 ^ k), bit_below i k m, bit_pow i k, bit_lt i m)) in
    omega (arith, low.many)

-- q without a member k of m has only what m has below k
enough_below : (n m q k : ℕ) → AreLowest n m q → Member k m → bit k q ≡ 0 → n ≤ count_ones (m % 2 ^ k)
enough_below n m q k low there gone =
    let fewer = split_count q (m % 2 ^ k) (λ i e.
    let down = λ (l : k < i). low.downward k i l e there in
    let same : i ≡ k → bit i q ≡ bit k q = ap (λ x. bit x q) in
    let held = low.within i e in
    grind (arith, nat_tests, bit_below i k m)) in
    omega (arith, low.many)

pub lowest_only : (n m q : ℕ) → m < 2 ^ 64 → AreLowest n m q → q ≡ lowest n m
unfolding lowest
lowest_only n m q h low =
    by_bits q (lowest n m) (λ k.
    let beyond = bit_beyond 64 k m h in
    let inside = low.within k in
    let few = few_below n m q k low in
    let enough = enough_below n m q k low in
    grind (arith, nat_tests, bit_lt k q, bit_lt k m) ∙ sym (bit_those k 64 (λ i. (bit i m == 1) && nat_lt (count_ones (m % 2 ^ i)) n)))

some_lowest : (n m : ℕ) → m < 2 ^ 64 → n ≤ count_ones m → (q : ℕ) × AreLowest n m q
some_lowest zero m h l = (0, lowest_none m)
some_lowest (suc n) m h l =
    let low = some_lowest n m h (omega arith) in
    (_, lowest_next n m low.0 _ low.1 (first_left n m low.0 low.1 (omega arith) h))

pub lowest_are : (n m : ℕ) → m < 2 ^ 64 → n ≤ count_ones m → AreLowest n m (lowest n m)
lowest_are n m h l = let low = some_lowest n m h l in subst (AreLowest n m) (lowest_only n m low.0 h low.1) low.1
