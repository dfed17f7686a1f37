use Rattle.std.proofs.Common.{◌≡◌, ℕ, sym, subst, add-one, arith}
use lib.Count.{count_trailing_zeros}
use Rattle.std.proofs.lemmas.Nat.{one_shl}
use Rattle.units.specs.Sets.{without, AreLowest}
use Rattle.units.specs.LowestFirst.{First, lowest_none, first_left, lowest_next, lowest_only}
use Rattle.units.proofs.crew.first_of.Goals as goal

pub loop-i-init : goal.loop-i-init
loop-i-init c = lowest_none c.args.mask

-- the shift is by the place of the first one that is left
next : (c : goal.After-others) → First 64 (without c.args.mask c.loop-i.picked) (count_trailing_zeros 64 c.others.result)
next c =
    subst (λ left. First 64 (without c.args.mask c.loop-i.picked) (count_trailing_zeros 64 left)) (sym c.others.ensures)
    (first_left c.loop-i._i c.args.mask c.loop-i.picked c.loop-i.invariant (omega arith) (omega arith))

pub overflow_shl-picked : goal.overflow_shl-picked
overflow_shl-picked c = (next c).below

pub loop-i-preserved : goal.loop-i-preserved
loop-i-preserved c =
    let t : ℕ = count_trailing_zeros 64 c.others.result in
    rw (add-one, one_shl t 64 (next c).below) (lowest_next c.loop-i._i c.args.mask c.loop-i.picked t c.loop-i.invariant (next c))

pub returns : goal.returns
returns c =
    let all : c.args.wanted ≡ c.loop-i._i = omega arith in
    let low : AreLowest c.args.wanted c.args.mask c.loop-i.picked = rw all c.loop-i.invariant in
    record { which = lowest_only c.args.wanted c.args.mask c.loop-i.picked (omega arith) low; first = low }
