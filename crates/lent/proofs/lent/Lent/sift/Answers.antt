use Rattle.std.proofs.Common.{◌≡◌, ℕ, List, ◌++◌, length, take, drop, sym, refl, ap, ◌∙◌, ap₂, arith}
use Rattle.lent.specs.Lists.{items}
use Rattle.lent.specs.Sifting.{sifted}
use Rattle.lent.proofs.Refills.{items_length, refilled, laid_with, part_within}
use Rattle.lent.proofs.Sifts.{blanked}
use Rattle.lent.proofs.lent.Lent.sift.Goals as goal

pub invariant_of-self : goal.invariant_of-self
invariant_of-self g c =
    let was = c.args.self.now in
    let sifting = sifted g.S.Sieve.left g.S.Sieve.after c.args.sieve.now in
    let at = c.min.result in
    let xs = take at (items was) ++ sifting (drop at (items was)) in
    let left = c.sift_from-left in
    let long = left.auto.xs ∙ items_length was in
    record { laid_out = laid_with was was.used xs _ (omega arith) was.laid_out.used_fits (omega (arith, left.ensures.count, left.ensures.fewer, items_length was)) (blanked left.new.xs xs c.fill.new.xs was.blank left.result was.used long (omega (arith, left.ensures.fewer, items_length was)) left.ensures.count left.ensures.front c.fill.ensures) left.result left.ensures.count }

pub returns : goal.returns
returns g c =
    let was = c.args.self.now in
    let sifting = sifted g.S.Sieve.left g.S.Sieve.after c.args.sieve.now in
    let at = c.min.result in
    let from = c.args.from in
    let xs = take from (items was) ++ sifting (drop from (items was)) in
    let parts = part_within (items was) was.used from (sym (items_length was)) in
    let same : take at (items was) ++ sifting (drop at (items was)) ≡ xs =
    ap (λ (k : ℕ). take k (items was) ++ sifting (drop k (items was))) c.min.ensures ∙ ap₂ (λ (p q : List g.row.T.Denot). p ++ sifting q) parts.0 parts.1 in
    let left = c.sift_from-left in
    let long = left.auto.xs ∙ items_length was in
    let count = left.ensures.count ∙ ap length same in
    record {
      used_is = count;
      room_is = refl;
      blank_is = refl;
      memory_is = refilled was was.used xs _ (omega arith) was.laid_out.used_fits (omega (arith, count, left.ensures.fewer, items_length was)) (blanked left.new.xs xs c.fill.new.xs was.blank left.result was.used long (omega (arith, left.ensures.fewer, items_length was)) count (left.ensures.front ∙ same) c.fill.ensures);
      lent_is = refl;
    }
