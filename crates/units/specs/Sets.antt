-- A number as a set: its members are the places of its set digits, the lowest digit's place being 0. Assumes nothing.
use Rattle.std.specs.Prelude.{◌≡◌, ℕ, zero, suc, ◌-◌, ◌/◌, ◌%◌, ◌^◌, ◌<◌, Bool, cond, ◌&&◌, ◌==◌, bit_and, bit_or, count_ones, nat_lt}

-- 1 where i is a member of m, else 0
unfoldable pub bit : ℕ → ℕ → ℕ
bit i m = m / 2 ^ i % 2

abbrev pub Member : ℕ → ℕ → Type 0
Member i m = bit i m ≡ 1

-- the members of a that b lacks
unfoldable pub without : ℕ → ℕ → ℕ
without a b = a - bit_and a b

-- the set of those below w that pass the test
unfoldable pub those : ℕ → (ℕ → Bool) → ℕ
those zero test = 0
those (suc w) test = bit_or (cond (test w) (2 ^ w) 0) (those w test)

-- the n lowest members of a set of 64 digits: those members that have fewer than n members below them
unfoldable pub lowest : ℕ → ℕ → ℕ
lowest n m = those 64 (λ i. (bit i m == 1) && nat_lt (count_ones (m % 2 ^ i)) n)

-- the same as a relation: q has n members, all of them of m, and with each every member of m below it
pub record AreLowest (n m q : ℕ) : Type 0 where
  pub within : (i : ℕ) → Member i q → Member i m
  pub many : count_ones q ≡ n
  pub downward : (i j : ℕ) → i < j → Member j q → Member i m → Member i q
