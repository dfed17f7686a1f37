-- What the functions answer that read the fields one by one. Assumes nothing.
use Rattle.std.specs.Prelude.{◌≡◌, ℕ, ◌+◌, ◌-◌, ◌*◌, ◌&&◌, ◌⊎◌, List, [], Some, None, Option, nat_le}
use Rattle.std.specs.Borrow.{Bor}
use Rattle.std.specs.Bool.{then_some}
use Rattle.std.specs.Char.{is_ascii_digit}
use Rattle.std.specs.Str.{all_ascii_digits}
use Rattle.sheet.specs.Fields.{value_after, with_first, numbers_of}

-- the number n with one more digit behind it
abbrev pub with_digit : ℕ → ℕ → Option ℕ
with_digit n b = then_some (is_ascii_digit b && nat_le (n * 10 + (b - 48)) 4294967295) (n * 10 + (b - 48))

-- the number that digits write behind those of n
abbrev pub digits_after : ℕ → List ℕ → Option ℕ
digits_after n bs = then_some (all_ascii_digits bs && nat_le (value_after n bs) 4294967295) (value_after n bs)

-- the number of the first field and what stands behind it; or there is no first number
abbrev pub FirstNumber : List ℕ → Option (ℕ × Bor (List ℕ)) → Type 0
FirstNumber bs None = (numbers_of bs ≡ None) ⊎ (numbers_of bs ≡ Some [])
FirstNumber bs (Some p) = numbers_of bs ≡ with_first (Some p.0) (numbers_of p.1.now)
