-- The seven policies: each compares one number of a rectangle. Assumes nothing.
use Rattle.std.specs.Prelude.{◌≡◌, ℕ, ◌-◌, ◌*◌, false, nat_lt}
use Rattle.std.proofs.Math.Bool.{So}
use Rattle.std.proofs.Common.{arith}
use Rattle.std.proofs.lemmas.Bool.{ltb-true, ltb-false, lt-ltb, le-ltb}
use Rattle.planning.specs.Policies.{Preference}
use Rattle.planning.specs.declared.rectangle.Rectangle.{Rectangle}

abbrev pub stretch : Rectangle → ℕ
stretch r = r.closing - r.opening

abbrev pub product : Rectangle → ℕ
product r = r.units * stretch r

-- To compare a number keeps the laws of a preference.
module _ (key : Rectangle → ℕ) where
  pub lower_itself : (r : Rectangle) → nat_lt (key r) (key r) ≡ false
  lower_itself r = le-ltb (key r) (key r) (omega arith)

  pub lower_onward : (q r t : Rectangle) → So (nat_lt (key q) (key r)) → So (nat_lt (key r) (key t)) → So (nat_lt (key q) (key t))
  lower_onward q r t a b = lt-ltb (key q) (key t) (omega (arith, ltb-true (key q) (key r) a, ltb-true (key r) (key t) b))

  pub lower_not_onward : (q r t : Rectangle) → nat_lt (key q) (key r) ≡ false → nat_lt (key r) (key t) ≡ false → nat_lt (key q) (key t) ≡ false
  lower_not_onward q r t a b = le-ltb (key q) (key t) (omega (arith, ltb-false (key q) (key r) a, ltb-false (key r) (key t) b))

-- the rectangle whose number is lower is preferred
abbrev pub lower : (Rectangle → ℕ) → Preference
lower key = record { prefers = λ q r. nat_lt (key q) (key r); not_itself = lower_itself key; onward = lower_onward key; not_onward = lower_not_onward key }

-- the other way round
abbrev pub turned : Preference → Preference
turned p = record { prefers = λ q r. p.prefers r q; not_itself = p.not_itself; onward = λ q r t a b. p.onward t r q b a; not_onward = λ q r t a b. p.not_onward t r q b a }

abbrev pub earliest_start : Preference
earliest_start = lower (λ r. r.start)

abbrev pub fewest_free : Preference
fewest_free = lower (λ r. r.units)

abbrev pub most_free : Preference
most_free = turned fewest_free

abbrev pub shortest_stretch : Preference
shortest_stretch = lower stretch

abbrev pub longest_stretch : Preference
longest_stretch = turned shortest_stretch

abbrev pub smallest_product : Preference
smallest_product = lower product

abbrev pub largest_product : Preference
largest_product = turned smallest_product
