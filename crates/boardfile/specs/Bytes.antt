-- Numbers in bytes, the lowest byte first. Assumes nothing.
use Rattle.std.specs.Prelude.{ℕ, zero, suc, ◌+◌, ◌*◌, ◌/◌, ◌%◌, ◌<◌, List, [], ◌∷◌, take, drop}
use Rattle.std.specs.List.{AllByRecursion}

-- the number that bytes write
abbrev pub value : List ℕ → ℕ
value [] = 0
value (b ∷ bs) = b + 256 * value bs

-- a number written in so many bytes
abbrev pub written : ℕ → ℕ → List ℕ
written zero n = []
written (suc width) n = (n % 256) ∷ written width (n / 256)

-- the number in so many bytes from a place on
abbrev pub number_at : ℕ → ℕ → List ℕ → ℕ
number_at place width bs = value (take width (drop place bs))

-- each is a byte
abbrev pub Bytes : List ℕ → Type 0
Bytes bs = AllByRecursion (λ b. b < 256) bs
