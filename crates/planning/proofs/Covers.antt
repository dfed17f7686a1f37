-- The joined loads of a stretch, from the records that stand in it. Assumes nothing.
use Rattle.std.proofs.Common.{◌≡◌, ℕ, zero, suc, ◌+◌, ◌-◌, ◌<◌, ◌≤◌, cond, leb, List, [], ◌∷◌, sym, refl, ap, ◌∙◌, ap₂, inl, inr, arith}
use Rattle.std.proofs.lemmas.Bool.{le-leb, lt-leb, cases_lt, cond-true, cond-false}
use Rattle.units.specs.Kinds.{Kind, Laws}
use Rattle.planning.specs.Search.{joined_over}
use Rattle.slots.specs.Stepped.{at, Ascending}
use Rattle.slots.specs.declared.slot.Slot.{Slot}
use Rattle.planning.proofs.Ascents.{at_before, at_after}

-- a load joined with those of the records in turn, up to the first that is d minutes or more after s
abbrev pub covered : {L : Type 0} → Kind L → ℕ → ℕ → L → List (Slot L) → L
covered k s d over [] = over
covered k s d over (x ∷ xs) = cond (leb d (x.minute - s)) over (covered k s d (k.joined over x.value) xs)

module _ {L : Type 0} (k : Kind L) where
  pub past : (s d : ℕ) (over : L) (x : Slot L) (xs : List (Slot L)) → d ≤ x.minute - s → covered k s d over (x ∷ xs) ≡ over
  past s d over x xs l = cond-true _ _ _ (le-leb d (x.minute - s) l)

  pub within : (s d : ℕ) (over : L) (x : Slot L) (xs : List (Slot L)) → x.minute - s < d → covered k s d over (x ∷ xs) ≡ covered k s d (k.joined over x.value) xs
  within s d over x xs l = cond-false _ _ _ (lt-leb d (x.minute - s) l)

  pub over_same : (f g : ℕ → L) (s d : ℕ) → ((n : ℕ) → s ≤ n → f n ≡ g n) → joined_over k f s d ≡ joined_over k g s d
  over_same f g s zero h = refl
  over_same f g s (suc d) h = ap₂ k.joined (h s (omega arith)) (over_same f g (suc s) d (λ n l. h n (omega arith)))

  module _ {c : ℕ} (laws : Laws k c) where
    joined_none : (a : L) → k.joined a k.nothing ≡ a
    joined_none a = laws.joined_turned a k.nothing ∙ laws.joined_nothing a

    over_still : (f : ℕ → L) (b : L) (s d : ℕ) → ((n : ℕ) → s ≤ n → n < s + suc d → f n ≡ b) → joined_over k f s (suc d) ≡ b
    over_still f b s zero h = joined_none (f s) ∙ h s (omega arith) (omega arith)
    over_still f b s (suc d) h = ap₂ k.joined (h s (omega arith) (omega arith)) (over_still f b (suc s) d (λ n l u. h n (omega arith) (omega arith))) ∙ laws.joined_self b

    over_split : (f : ℕ → L) (s a b n t : ℕ) → a + b ≡ n → s + a ≡ t → joined_over k f s n ≡ k.joined (joined_over k f s a) (joined_over k f t b)
    over_split f s zero b n t e g =
        let p : n ≡ b = omega arith in
        let q : s ≡ t = omega arith in
        ap₂ (λ x y. joined_over k f y x) p q ∙ sym (laws.joined_nothing (joined_over k f t b))
    over_split f s (suc a) b zero t e g = absurd (omega arith)
    over_split f s (suc a) b (suc n) t e g =
        ap (k.joined (f s)) (over_split f (suc s) a b n t (omega arith) (omega arith)) ∙ sym (laws.joined_regrouped (f s) (joined_over k f (suc s) a) (joined_over k f t b))

    -- with what was joined before
    joined_on : (low t s d e : ℕ) (a b : L) (xs : List (Slot L)) → Ascending low xs → t < low → s ≤ t → t + suc e ≡ s + d → k.joined a (joined_over k (at b xs) t (suc e)) ≡ covered k s d (k.joined a b) xs
    joined_on low t s d e a b [] h l u q = ap (k.joined a) (over_still (at b []) b t e (λ n i j. refl))
    joined_on low t s d e a b (x ∷ xs) h l u q =
        elim (cases_lt (x.minute - s) d) [
          | inr y ↦
              ap (k.joined a) (over_still (at b (x ∷ xs)) b t e (λ n i j. at_before low b x xs n h (omega arith)))
              ∙ sym (past s d (k.joined a b) x xs y)
          | inl y ↦
              let first = x.minute - suc t in
              let rest = s + d - suc x.minute in
              let all = joined_over k (at x.value xs) x.minute (suc rest) in
              ap (k.joined a) (
              over_split (at b (x ∷ xs)) t (suc first) (suc rest) (suc e) x.minute (omega arith) (omega arith)
              ∙ ap₂ k.joined (over_still (at b (x ∷ xs)) b t first (λ n i j. at_before low b x xs n h (omega arith))) (over_same (at b (x ∷ xs)) (at x.value xs) x.minute (suc rest) (λ n i. at_after b x xs n i)))
              ∙ sym (laws.joined_regrouped a b all)
              ∙ joined_on (suc x.minute) x.minute s d rest (k.joined a b) x.value xs h.1 (omega arith) (omega arith) (omega arith)
              ∙ sym (within s d (k.joined a b) x xs y)
        ]

    pub covers : (s d : ℕ) (b : L) (xs : List (Slot L)) → Ascending (suc s) xs → 1 ≤ d → covered k s d b xs ≡ joined_over k (at b xs) s d
    covers s zero b xs h l = absurd (omega arith)
    covers s (suc d) b xs h l =
        ap (λ v. covered k s (suc d) v xs) (sym (laws.joined_nothing b))
        ∙ sym (joined_on (suc s) s s (suc d) d k.nothing b xs h (omega arith) (omega arith) (omega arith))
        ∙ laws.joined_nothing (joined_over k (at b xs) s (suc d))
