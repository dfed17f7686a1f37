-- The rectangle of a start is the longest stretch that adds nothing. Assumes nothing.
use Rattle.std.proofs.Common.{◌≡◌, ℕ, zero, suc, ◌+◌, ◌-◌, ◌<◌, ◌≤◌, Bool, true, false, sym, refl, ap, ◌∙◌, subst, inl, inr, arith}
use mathlib.Core.Bool.{So}
use Rattle.std.proofs.lemmas.Bool.{cases_eq, cases_lt, both_ways}
use Rattle.units.specs.Kinds.{Kind, Laws}
use Rattle.planning.specs.Search.{joined_over}
use Rattle.planning.specs.declared.request.Request.{Request}
use Rattle.planning.specs.Rectangles.{rectangle, Longest, opening_of, closing_of}

module _ {L : Type 0} (k : Kind L) (c : ℕ) (laws : Laws k c) where
  -- a join with what it holds already
  absorbs_first : (a b : L) → k.joined (k.joined a b) a ≡ k.joined a b
  absorbs_first a b = laws.joined_turned (k.joined a b) a ∙ sym (laws.joined_regrouped a a b) ∙ ap (λ v. k.joined v b) (laws.joined_self a)

  absorbs : (load : ℕ → L) (s d m : ℕ) → s ≤ m → m < s + d → k.joined (joined_over k load s d) (load m) ≡ joined_over k load s d
  absorbs load s zero m l u = absurd (omega arith)
  absorbs load s (suc d) m l u =
      let rest = joined_over k load (suc s) d in
      elim (cases_eq s m) [
        | inl e ↦ ap (λ n. k.joined (k.joined (load s) rest) (load n)) (sym e) ∙ absorbs_first (load s) rest
        | inr n ↦ laws.joined_regrouped (load s) rest (load m) ∙ ap (k.joined (load s)) (absorbs load (suc s) d m (omega arith) (omega arith))
      ]

  module _ (load : ℕ → L) (over : L) where
    abbrev pub Silent : ℕ → Type 0
    Silent m = k.joined over (load m) ≡ over

    abbrev silent : ℕ → Bool
    silent m = k.same (k.joined over (load m)) over

    yes_silent : (m : ℕ) → silent m ≡ true → Silent m
    yes_silent m e = laws.same_is (k.joined over (load m)) over e

    not_silent : (m : ℕ) → silent m ≡ false → Silent m → ⊥
    not_silent m e p = both_ways (silent m) e (subst (λ v. So (k.same (k.joined over (load m)) v)) p (laws.same_self (k.joined over (load m))))

    abbrev pub opened : ℕ → ℕ → Type 0
    opened s o = (o ≤ s) × ((m : ℕ) → o ≤ m → m < s → Silent m) × ((a : ℕ) → a ≤ s → ((m : ℕ) → a ≤ m → m < s → Silent m) → o ≤ a)

    open_step : (s : ℕ) → opened s (opening_of k load over s) → (t : Bool) → silent s ≡ t → opened (suc s) (elim t [ true ↦ opening_of k load over s | false ↦ suc s ])
    open_step s h true e = (
      omega arith,
      λ m l u. elim (cases_eq s m) [ inl q ↦ subst Silent q (yes_silent s e) | inr n ↦ h.1 m l (omega arith) ],
      λ a l f. elim (cases_lt s a) [ inl u ↦ omega (arith, h.0) | inr u ↦ h.2 a u (λ m x y. f m x (omega arith)) ],
    )
    open_step s h false e = (
      omega arith,
      λ m l u. absurd (omega arith),
      λ a l f. elim (cases_lt s a) [ inl u ↦ u | inr u ↦ absurd (not_silent s e (f s u (omega arith))) ],
    )

    pub opens : (s : ℕ) → opened s (opening_of k load over s)
    opens zero = (omega arith, λ m l u. absurd (omega arith), λ a l f. omega arith)
    opens (suc s) = open_step s (opens s) (silent s) refl

    abbrev pub closed : ℕ → ℕ → ℕ → Type 0
    closed s h e = (s ≤ e) × (e ≤ h) × ((m : ℕ) → s ≤ m → m < e → Silent m) × ((z : ℕ) → s ≤ z → z ≤ h → ((m : ℕ) → s ≤ m → m < z → Silent m) → z ≤ e)

    close_step : (s n h : ℕ) → s + suc n ≡ h → closed (suc s) h (closing_of k load over (suc s) n) → (t : Bool) → silent s ≡ t → closed s h (elim t [ true ↦ closing_of k load over (suc s) n | false ↦ s ])
    close_step s n h w r true e = (
      omega (arith, r.0),
      r.1,
      λ m l u. elim (cases_eq s m) [ inl q ↦ subst Silent q (yes_silent s e) | inr o ↦ r.2 m (omega arith) u ],
      λ z l u f. elim (cases_lt s z) [ inl y ↦ r.3 z y u (λ m x t. f m (omega arith) t) | inr y ↦ omega (arith, r.0) ],
    )
    close_step s n h w r false e = (
      omega arith,
      omega arith,
      λ m l u. absurd (omega arith),
      λ z l u f. elim (cases_lt s z) [ inl y ↦ absurd (not_silent s e (f s (omega arith) y)) | inr y ↦ y ],
    )

    pub closes : (s n h : ℕ) → s + n ≡ h → closed s h (closing_of k load over s n)
    closes s zero h e = (omega arith, omega arith, λ m l u. absurd (omega arith), λ z l u f. omega arith)
    closes s (suc n) h e = close_step s n h e (closes (suc s) n h (omega arith)) (silent s) refl

  pub rectangle_longest : (h : ℕ) (load : ℕ → L) (request : Request) (s : ℕ) → s + request.duration ≤ h → Longest k h load request s (rectangle k c h load request s)
  rectangle_longest h load request s fits =
      let over = joined_over k load s request.duration in
      let o = opens load over s in
      let z = closes load over s (h - s) h (omega arith) in
      record {
        opens = o.0;
        lasts = z.3 (s + request.duration) (omega arith) fits (absorbs load s request.duration);
        closes = z.1;
        covered = λ m l u. elim (cases_lt m s) [ inl y ↦ o.1 m l y | inr y ↦ z.2 m y u ];
        longest = λ a e l y u f. (o.2 a l (λ m x t. f m x (omega arith)), z.3 e y u (λ m x t. f m (omega arith) t));
      }
