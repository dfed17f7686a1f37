-- What the laws give of joined loads: how much they leave free, and which claims are clear of them. Assumes nothing.
use Rattle.std.proofs.Common.{ℕ, zero, suc, ◌≤◌, sym, ◌∙◌, subst, inl, inr, arith}
use mathlib.Core.Bool.{So}
use Rattle.std.proofs.lemmas.Bool.{and_parts, and_from, cases_lt, cases_order}
use Rattle.planning.specs.Theorems.{FreeFalls, ClaimExists, FitsIsClear, Startable}
use Rattle.units.specs.Kinds.{Kind, Laws}
use Rattle.planning.specs.Search.{Fits, joined_over}

module _ {L : Type 0} where
  pub clear_parts : (k : Kind L) (c : ℕ) (laws : Laws k c) (p a b : L) → So (k.clear c p (k.joined a b)) → So (k.clear c p a) × So (k.clear c p b)
  clear_parts k c laws p a b h = and_parts (k.clear c p a) (k.clear c p b) (sym (laws.clear_of_joined p a b) ∙ h)

  pub clear_both : (k : Kind L) (c : ℕ) (laws : Laws k c) (p a b : L) → So (k.clear c p a) → So (k.clear c p b) → So (k.clear c p (k.joined a b))
  clear_both k c laws p a b h g = laws.clear_of_joined p a b ∙ and_from (k.clear c p a) (k.clear c p b) h g

  pub free_falls : FreeFalls L
  free_falls k c laws a b =
      elim (cases_lt (k.free c (k.joined a b)) 1) [
        | inl none ↦ omega arith
        | inr some ↦
            let p = laws.pick_enough (k.free c (k.joined a b)) (k.joined a b) some (omega arith) in
            omega (arith, p.2, laws.clear_within p.0 a (clear_parts k c laws p.0 a b p.3).0)
      ]

  pub claim_exists : ClaimExists L
  claim_exists k c laws n l some =
      (λ h. omega (arith, h.1, laws.clear_within h.0 l h.2), λ h. let p = laws.pick_enough n l some h in (p.0, p.2, p.3))

  pub fits_from_clear : (k : Kind L) (c : ℕ) (laws : Laws k c) (load : ℕ → L) (p : L) (s d : ℕ) → So (k.clear c p (joined_over k load s d)) → Fits k c load p s d
  fits_from_clear k c laws load p s zero h m l u = absurd (omega arith)
  fits_from_clear k c laws load p s (suc d) h m l u =
      let parts = clear_parts k c laws p (load s) (joined_over k load (suc s) d) h in
      elim (cases_order s m) [
        | inl e ↦ subst (λ n. So (k.clear c p (load n))) e parts.0
        | inr (inl e) ↦ fits_from_clear k c laws load p (suc s) d parts.1 m e (omega arith)
        | inr (inr e) ↦ absurd (omega arith)
      ]

  pub clear_from_fits : (k : Kind L) (c : ℕ) (laws : Laws k c) (load : ℕ → L) (p : L) (s d : ℕ) → Fits k c load p s (suc d) → So (k.clear c p (joined_over k load s (suc d)))
  clear_from_fits k c laws load p s zero h =
      subst (λ l. So (k.clear c p l)) (sym (laws.joined_turned (load s) k.nothing ∙ laws.joined_nothing (load s))) (h s (omega arith) (omega arith))
  clear_from_fits k c laws load p s (suc d) h =
      clear_both k c laws p (load s) (joined_over k load (suc s) (suc d)) (h s (omega arith) (omega arith)) (clear_from_fits k c laws load p (suc s) d (λ m l u. h m (omega arith) (omega arith)))

  clear_from_fits_1 : (k : Kind L) (c : ℕ) (laws : Laws k c) (load : ℕ → L) (p : L) (s d : ℕ) → 1 ≤ d → Fits k c load p s d → So (k.clear c p (joined_over k load s d))
  clear_from_fits_1 k c laws load p s zero some h = absurd (omega arith)
  clear_from_fits_1 k c laws load p s (suc d) some h = clear_from_fits k c laws load p s d h

  pub fits_is_clear : FitsIsClear L
  fits_is_clear k c laws load p s d some = (clear_from_fits_1 k c laws load p s d some, fits_from_clear k c laws load p s d)

  pub startable : Startable L
  startable k c laws load request s wants lasts =
      let over = joined_over k load s request.duration in
      let exists = claim_exists k c laws request.wanted over wants in
      let fits = λ (p : L). fits_is_clear k c laws load p s request.duration lasts in
      (λ h. exists.0 (h.0, h.1, (fits h.0).0 h.2), λ h. let p = exists.1 h in (p.0, p.1, (fits p.0).1 p.2))
