-- The definitions yield the examples: each side is computed. Assumes nothing.
use Rattle.std.proofs.Common.{refl}
use lib.Count.{ones, ones_in}
use Rattle.units.specs.Sets.{bit, without, those, lowest}
use Rattle.examples.specs.Examples.{Examples}

pub computed : Examples
unfolding ones ones_in bit without those lowest
computed = record {
  a = refl;
  b = refl;
  slots_with_b = refl;
  no_gap = refl;
  third = refl;
  slots_with_third = refl;
  confirmed = refl;
  cancelled = refl;
  slots_without_first = refl;
  freest = refl;
  freest_rectangle = refl;
  no_duration = refl;
  too_many = refl;
  too_short = refl;
  past_the_horizon = refl;
  last_start = refl;
  two_pieces = refl;
  too_few_left = refl;
  after_them = refl;
  slots_of_stock = refl;
}
