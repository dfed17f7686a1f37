-- The opening of a start, from the last record before it back. Assumes nothing.
use Rattle.std.proofs.Common.{◌≡◌, ℕ, zero, suc, ◌+◌, ◌-◌, ◌<◌, ◌≤◌, Bool, true, false, List, [], ◌∷◌, ◌++◌, sym, refl, ap, ◌∙◌, inl, inr, arith}
use Rattle.std.proofs.lemmas.Bool.{le-leb, lt-leb, cases_Bool, cond-true, cond-false}
use Rattle.units.specs.Kinds.{Kind, Laws}
use Rattle.planning.specs.Rectangles.{opening_of}
use Rattle.slots.specs.Stepped.{at}
use Rattle.slots.specs.declared.slot.Slot.{Slot}
use Rattle.planning.proofs.Ascents.{at_push}

-- a load that adds nothing
abbrev pub quiet : {L : Type 0} → Kind L → L → L → Bool
quiet k over l = k.same (k.joined over l) over

module _ {L : Type 0} (k : Kind L) (over : L) where
  step_quiet : (f : ℕ → L) (t : ℕ) → quiet k over (f t) ≡ true → opening_of k f over (suc t) ≡ opening_of k f over t
  step_quiet f t e = ap (λ (q : Bool). elim q [ true ↦ opening_of k f over t | false ↦ suc t ]) e

  step_loud : (f : ℕ → L) (t : ℕ) → quiet k over (f t) ≡ false → opening_of k f over (suc t) ≡ suc t
  step_loud f t e = ap (λ (q : Bool). elim q [ true ↦ opening_of k f over t | false ↦ suc t ]) e

  pub same_open : (f g : ℕ → L) (s : ℕ) → ((n : ℕ) → n < s → f n ≡ g n) → opening_of k f over s ≡ opening_of k g over s
  same_open f g zero h = refl
  same_open f g (suc s) h =
      let here = ap (quiet k over) (h s (omega arith)) in
      elim (cases_Bool (quiet k over (g s))) [
        | inl q ↦ step_quiet f s (here ∙ q) ∙ same_open f g s (λ n l. h n (omega arith)) ∙ sym (step_quiet g s q)
        | inr q ↦ step_loud f s (here ∙ q) ∙ sym (step_loud g s q)
      ]

  -- no load from a up to t adds something
  pub open_still : (f : ℕ → L) (a j t : ℕ) → a + j ≡ t → ((n : ℕ) → a ≤ n → n < t → quiet k over (f n) ≡ true) → opening_of k f over t ≡ opening_of k f over a
  open_still f a zero t e h = let p : t ≡ a = omega arith in ap (opening_of k f over) p
  open_still f a (suc j) zero e h = absurd (omega arith)
  open_still f a (suc j) (suc t) e h = step_quiet f t (h t (omega arith) (omega arith)) ∙ open_still f a j t (omega arith) (λ n l u. h n l (omega arith))

  module _ (b : L) (x : Slot L) (xs : List (Slot L)) where
    from_last : (n : ℕ) → x.minute ≤ n → at b (xs ++ (x ∷ [])) n ≡ x.value
    from_last n l = at_push b x xs n ∙ cond-true _ _ _ (le-leb x.minute n l)

    before_last : (n : ℕ) → n < x.minute → at b (xs ++ (x ∷ [])) n ≡ at b xs n
    before_last n l = at_push b x xs n ∙ cond-false _ _ _ (lt-leb x.minute n l)

    -- by the last record: it stands too late, adds nothing, or adds something
    pub too_late : (t : ℕ) → t ≤ x.minute → opening_of k (at b (xs ++ (x ∷ []))) over t ≡ opening_of k (at b xs) over t
    too_late t l = same_open (at b (xs ++ (x ∷ []))) (at b xs) t (λ n u. before_last n (omega arith))

    pub is_quiet : (t : ℕ) → x.minute < t → quiet k over x.value ≡ true → opening_of k (at b (xs ++ (x ∷ []))) over t ≡ opening_of k (at b xs) over x.minute
    is_quiet t l q = open_still (at b (xs ++ (x ∷ []))) x.minute (t - x.minute) t (omega arith) (λ n u z. ap (quiet k over) (from_last n u) ∙ q) ∙ too_late x.minute (omega arith)

    pub is_loud : (t : ℕ) → x.minute < t → quiet k over x.value ≡ false → opening_of k (at b (xs ++ (x ∷ []))) over t ≡ t
    is_loud zero l q = absurd (omega arith)
    is_loud (suc t) l q = step_loud (at b (xs ++ (x ∷ []))) t (ap (quiet k over) (from_last t (omega arith)) ∙ q)

-- before all records nothing stands, which adds nothing
pub opens_first : {L : Type 0} (k : Kind L) {c : ℕ} (laws : Laws k c) (over : L) (t : ℕ) → opening_of k (at k.nothing []) over t ≡ 0
opens_first k laws over t =
    let silent : quiet k over k.nothing ≡ true = ap (λ v. k.same v over) (laws.joined_turned over k.nothing ∙ laws.joined_nothing over) ∙ laws.same_self over in
    open_still k over (at k.nothing []) 0 t t (omega arith) (λ n l u. silent)
