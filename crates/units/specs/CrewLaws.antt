-- Crew keeps the laws of a kind, shown a mechanic at a time: of whatever test says that a claim is clear, as long as it tells what that means. Assumes nothing.
use Rattle.std.specs.Prelude.{◌≡◌, ℕ, ◌+◌, ◌^◌, ◌<◌, ◌≤◌, min, Bool, cond, ◌&&◌, Some, count_ones, refl}
use Rattle.std.proofs.Common.{ap, ◌∙◌, arith, pow_mono}
use Rattle.std.proofs.Math.Bool.{So}
use Rattle.std.specs.Int.Bits.{bit_and, bit_or, or_self}
use Rattle.std.proofs.lemmas.Nat.{or_comm}
use Rattle.std.specs.Int.Count.{ones-ones}
use Rattle.std.proofs.Math.Pow.{ones_lt}
use Rattle.std.proofs.lemmas.Bool.{eqb-true, eq-eqb, le-leb, lt-leb, and_parts, and_from}
use Rattle.std.proofs.lemmas.Bool.Decides.{same_from_decides}
use Rattle.units.specs.Kinds.{Kind, Laws}
use Rattle.units.specs.Sets.{bit, without, lowest}
use Rattle.units.specs.Crews.{of_mask, mechanics, idle, crew_joined, crew_lift, crew_free, crew_pick, crew_kind}
use Rattle.units.specs.declared.crew.Crew.{Crew}
use Rattle.units.specs.Digits.{bit_lt, bit_zero, by_bits, bit_and_lem, bit_or_lem, bit_without, without_le}
use Rattle.units.specs.Counts.{ones_zero, same_count, split_count}
use Rattle.units.specs.LowestFirst.{lowest_are}

-- crew, with this test of what is clear
abbrev pub crew_by : (ℕ → Crew → Crew → Bool) → Kind Crew
crew_by clear = record crew_kind { clear = clear; put = λ c p l. cond (clear c p l) (crew_joined l p) l }

-- the test tells that the load and the claim share no mechanic and that the claim names none above the capacity
pub record TellsClear (c : ℕ) (clear : ℕ → Crew → Crew → Bool) : Type 0 where
  pub shares_none : (p l : Crew) → So (clear c p l) → bit_and l.mask p.mask ≡ 0
  pub none_above : (p l : Crew) → So (clear c p l) → without p.mask (mechanics c) ≡ 0
  pub is_clear : (p l : Crew) → bit_and l.mask p.mask ≡ 0 → without p.mask (mechanics c) ≡ 0 → So (clear c p l)

module _ (c : ℕ) (test : ℕ → Crew → Crew → Bool) (told : TellsClear c test) where
  abbrev clear : Crew → Crew → Bool
  clear = test c

  abbrev put : Crew → Crew → Crew
  put = (crew_by test).put c

  -- the load and the claim do not both name a mechanic, and the claim names none above the capacity
  abbrev Clear : Crew → Crew → Type 0
  Clear p l = (i : ℕ) → (bit i l.mask + bit i p.mask ≤ 1) × (bit i p.mask ≤ bit i (mechanics c))

  clear_means : (p l : Crew) → So (clear p l) → Clear p l
  clear_means p l h i =
      let apart = told.shares_none p l h in
      let known = told.none_above p l h in (
        omega (arith, bit_lt i l.mask, bit_lt i p.mask, simp (bit_and_lem, bit_zero) at (ap (bit i) apart)),
        omega (arith, simp (bit_without, bit_zero) at (ap (bit i) known)),
      )

  clear_from : (p l : Crew) → Clear p l → So (clear p l)
  clear_from p l h =
      told.is_clear p l
      (by_bits _ _ (λ i. simp (bit_and_lem, bit_zero) (omega (arith, h i))))
      (by_bits _ _ (λ i. simp (bit_without, bit_zero) (omega (arith, h i))))

  put_clear : (p l : Crew) → So (clear p l) → put p l ≡ crew_joined l p
  put_clear p l h = rw h

  idle_lt : (l : Crew) → idle c l < 2 ^ 64
  idle_lt l = omega (arith, without_le (mechanics c) l.mask, ones_lt (min c 64), pow_mono {i = min c 64} {j = 64} (omega arith))

  clear_of_joined : (p a b : Crew) → clear p (crew_joined a b) ≡ (clear p a && clear p b)
  clear_of_joined p a b =
      let either = λ (i : ℕ). bit_or_lem i a.mask b.mask in
      same_from_decides _ _ (
        λ h. let joint = clear_means p (crew_joined a b) h in
            and_from _ _ (clear_from p a (λ i. omega (arith, joint i, either i))) (clear_from p b (λ i. omega (arith, joint i, either i))),
        λ h. let each = and_parts (clear p a) (clear p b) h in
            clear_from p (crew_joined a b) (λ i. omega (arith, clear_means p a each.0 i, clear_means p b each.1 i, either i)),
      )
      (λ h. h, λ h. h)

  -- a mechanic of a clear claim is idle
  clear_within : (p l : Crew) → So (clear p l) → count_ones p.mask ≤ crew_free c l
  clear_within p l h =
      let split = split_count p.mask (idle c l) (λ i named. omega (arith, clear_means p l h i, bit_without i (mechanics c) l.mask, bit_lt i (mechanics c))) in
      omega arith

  pick_enough : (n : ℕ) (l : Crew) → n ≤ crew_free c l → (p : Crew) × (crew_pick c n l ≡ Some p) × (count_ones p.mask ≡ n) × So (clear p l)
  pick_enough n l enough =
      let low = lowest_are n (idle c l) (idle_lt l) enough in
      let p : Crew = of_mask (lowest n (idle c l)) in (
        p,
        rw (le-leb n (crew_free c l) enough),
        low.many,
        clear_from p l (λ i. let inside = low.within i in
            grind (arith, bit_without i (mechanics c) l.mask, bit_lt i (mechanics c), bit_lt i l.mask, bit_lt i p.mask)),
      )

  free_nothing : c ≤ 64 → crew_free c (of_mask 0) ≡ c
  free_nothing most =
      let all : without (mechanics c) 0 ≡ mechanics c = by_bits _ _ (λ i. simp (bit_without, bit_zero) (omega arith)) in
      ap count_ones all ∙ ones-ones (min c 64) ∙ omega arith

  lift_put : (p l : Crew) → So (clear p l) → crew_lift p (put p l) ≡ l
  lift_put p l h =
      let there : without p.mask (bit_or l.mask p.mask) ≡ 0 = by_bits _ _ (λ i. simp (bit_without, bit_or_lem, bit_zero) (omega arith)) in
      let back : without (bit_or l.mask p.mask) p.mask ≡ l.mask = by_bits _ _ (λ i. simp (bit_without, bit_or_lem) (omega (arith, clear_means p l h i))) in
      ap (crew_lift p) (put_clear p l h) ∙ rw (there, back)

  put_turned : (p q l : Crew) → So (clear p l) → So (clear q (put p l))
      → So (clear q l) × So (clear p (put q l)) × (put q (put p l) ≡ put p (put q l))
  put_turned p q l h k =
      let q-after : So (clear q (crew_joined l p)) = rw (put_clear p l h) at k in
      let first = clear_means p l h in
      let second = clear_means q (crew_joined l p) q-after in
      let with-p = λ (i : ℕ). bit_or_lem i l.mask p.mask in
      let q-clear : So (clear q l) = clear_from q l (λ i. omega (arith, second i, with-p i)) in
      let p-after : So (clear p (crew_joined l q)) = clear_from p (crew_joined l q) (λ i. omega (arith, first i, second i, with-p i, bit_or_lem i l.mask q.mask)) in
      let turned : bit_or (bit_or l.mask p.mask) q.mask ≡ bit_or (bit_or l.mask q.mask) p.mask = by_bits _ _ (λ i. simp bit_or_lem (omega arith)) in (
        q-clear,
        rw (put_clear q l q-clear) p-after,
        rw (put_clear p l h, put_clear q l q-clear, put_clear q (crew_joined l p) q-after, put_clear p (crew_joined l q) p-after) (ap of_mask turned),
      )

  free_put : (p l : Crew) → So (clear p l) → count_ones p.mask + crew_free c (put p l) ≡ crew_free c l
  free_put p l h =
      let counted = same_count p.mask (idle c (crew_joined l p)) (idle c l) 0 (λ i. simp (bit_without, bit_or_lem, bit_zero) (omega (arith, bit_lt i (mechanics c), clear_means p l h i))) in
      rw (put_clear p l h) (omega (arith, ones_zero))

  pub crew_laws : c ≤ 64 → Laws (crew_by test) c
  crew_laws most = record {
    same_is = λ a b h. ap of_mask (eqb-true a.mask b.mask h);
    same_self = λ a. eq-eqb a.mask a.mask refl;
    joined_turned = λ a b. ap of_mask (or_comm a.mask b.mask);
    joined_regrouped = λ a b d. ap of_mask (by_bits _ _ (λ i. simp bit_or_lem (omega arith)));
    joined_self = λ a. ap of_mask (or_self a.mask);
    joined_nothing = λ a. refl;
    clear_of_joined = clear_of_joined;
    clear_within = clear_within;
    pick_enough = λ n l some. pick_enough n l;
    pick_short = λ n l short. rw (lt-leb n (crew_free c l) short);
    free_nothing = free_nothing most;
    lift_put = lift_put;
    put_turned = put_turned;
    free_put = free_put;
  }
