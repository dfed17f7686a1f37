-- To keep the better of two, from first to last, leaves the best. Assumes nothing.
use Rattle.std.proofs.Common.{◌≡◌, ℕ, ◌≤◌, Bool, true, false, cond, not, ◌&&◌, ltb, ◌⊎◌, List, [], ◌∷◌, Some, sym, refl, subst, inl, inr, arith}
use Rattle.std.proofs.lemmas.Bool.{ltb-true, ltb-false, or_parts, or_cases, and_parts, and_cases, not-true, not-false, both_ways}
use Rattle.slots.specs.Lists.{In}
use Rattle.planning.specs.Policies.{Preference, Unbettered, before, best, first_of}
use Rattle.planning.specs.declared.rectangle.Rectangle.{Rectangle}

module _ (policy : Preference) where
  -- q does not go before r
  record NotBefore (q r : Rectangle) : Type 0 where
    not_preferred : policy.prefers q r ≡ false
    beaten : (policy.prefers r q ≡ true) ⊎ (r.start ≤ q.start)

  from_test : (q r : Rectangle) → before policy q r ≡ false → NotBefore q r
  from_test q r h =
      let parts = or_parts (policy.prefers q r) (not (policy.prefers r q) && ltb q.start r.start) h in
      record {
        not_preferred = parts.0;
        beaten = elim (and_cases (not (policy.prefers r q)) (ltb q.start r.start) parts.1) [ inl n ↦ inl (not-false (policy.prefers r q) n) | inr l ↦ inr (ltb-false q.start r.start l) ];
      }

  -- if a goes before b and not before x, x goes before b; if t goes before r and q does not, t goes before q
  passed_on : (a b x : Rectangle) → policy.prefers a b ≡ true → policy.prefers a x ≡ false → (t : Bool) → policy.prefers x b ≡ t → t ≡ true
  passed_on a b x h n true e = refl
  passed_on a b x h n false e = absurd (both_ways (policy.prefers a b) (policy.not_onward a x b n e) h)

  passed_up : (t r q : Rectangle) → policy.prefers t r ≡ true → policy.prefers q r ≡ false → (u : Bool) → policy.prefers t q ≡ u → u ≡ true
  passed_up t r q h n true e = refl
  passed_up t r q h n false e = absurd (both_ways (policy.prefers t r) (policy.not_onward t q r e n) h)

  not_both : (q r : Rectangle) → policy.prefers q r ≡ true → (t : Bool) → policy.prefers r q ≡ t → t ≡ false
  not_both q r h true e = absurd (both_ways (policy.prefers q q) (policy.not_itself q) (policy.onward q r q h e))
  not_both q r h false e = refl

  turned : (q r : Rectangle) → before policy q r ≡ true → NotBefore r q
  turned q r h =
      elim (or_cases (policy.prefers q r) (not (policy.prefers r q) && ltb q.start r.start) h) [
        | inl p ↦ record { not_preferred = not_both q r p (policy.prefers r q) refl; beaten = inl p }
        | inr b ↦
            let parts = and_parts (not (policy.prefers r q)) (ltb q.start r.start) b in
            record { not_preferred = not-true (policy.prefers r q) parts.0; beaten = inr (omega (arith, ltb-true q.start r.start parts.1)) }
      ]

  itself : (r : Rectangle) → NotBefore r r
  itself r = record { not_preferred = policy.not_itself r; beaten = inr (omega arith) }

  onward : (q r t : Rectangle) → NotBefore q r → NotBefore r t → NotBefore q t
  onward q r t a b =
      record {
        not_preferred = policy.not_onward q r t a.not_preferred b.not_preferred;
        beaten =
            elim a.beaten [
              | inl p ↦ inl (passed_on r q t p b.not_preferred (policy.prefers t q) refl)
              | inr l ↦ elim b.beaten [ inl p ↦ inl (passed_up t r q p a.not_preferred (policy.prefers t q) refl) | inr u ↦ inr (omega arith) ]
            ];
      }

  abbrev Best : Rectangle → List Rectangle → Type 0
  Best t rs = In t rs × ((q : Rectangle) → In q rs → NotBefore q t)

  -- one more, by whether it goes before the best so far
  one_more : (r q : Rectangle) (qs : List Rectangle) → ((v : Rectangle) → Best (best policy v qs) (v ∷ qs)) → (t : Bool) → before policy q r ≡ t → Best (best policy (cond t q r) qs) (r ∷ q ∷ qs)
  one_more r q qs rest true e =
      let a = rest q in
      (inr a.0, λ x. elim [ inl p ↦ subst (λ v. NotBefore v (best policy q qs)) (sym p) (onward r q (best policy q qs) (turned q r e) (a.1 q (inl refl))) | inr i ↦ a.1 x i ])
  one_more r q qs rest false e =
      let a = rest r in (
        elim a.0 [ inl p ↦ inl p | inr i ↦ inr (inr i) ],
        λ x. elim [
          | inl p ↦ a.1 x (inl p)
          | inr (inl p) ↦ subst (λ v. NotBefore v (best policy r qs)) (sym p) (onward q r (best policy r qs) (from_test q r e) (a.1 r (inl refl)))
          | inr (inr i) ↦ a.1 x (inr i)
        ],
      )

  best_is : (r : Rectangle) (qs : List Rectangle) → Best (best policy r qs) (r ∷ qs)
  best_is r [] = (inl refl, λ q. elim [ inl e ↦ subst (λ v. NotBefore v r) (sym e) (itself r) | inr i ↦ absurd i ])
  best_is r (q ∷ qs) = one_more r q qs (λ v. best_is v qs) (before policy q r) refl

  least : (q r : Rectangle) → NotBefore q r → policy.prefers r q ≡ false → r.start ≤ q.start
  least q r h n = elim h.beaten [ inl p ↦ absurd (both_ways (policy.prefers r q) n p) | inr l ↦ l ]

  pub choice_best : (rs : List Rectangle) (r : Rectangle) → first_of policy rs ≡ Some r → Unbettered policy rs r
  choice_best [] r e = absurd (let z : ◌≡◌ {A = ℕ} 0 1 = cc in omega arith)
  choice_best (x ∷ xs) r e =
      let p : best policy x xs ≡ r = cc in
      let b = subst (λ v. Best v (x ∷ xs)) p (best_is x xs) in
      record { among = b.0; unbeaten = λ q i. (b.1 q i).not_preferred; earliest = λ q i. least q r (b.1 q i) }

  pub choice_only : (rs : List Rectangle) (q r : Rectangle) → Unbettered policy rs q → Unbettered policy rs r → q.start ≡ r.start
  choice_only rs q r a b = omega (arith, a.earliest r b.among (b.unbeaten q a.among), b.earliest q a.among (a.unbeaten r b.among))
