-- The starts may be tried in any order: those in the window are what counts. Assumes nothing.
use Rattle.std.proofs.Common.{◌≡◌, ℕ, Bool, List, [], ◌∷◌, map, Some, filter, sym, refl, ap, ◌∙◌, subst, inl}
use mathlib.Core.Bool.{So}
use Rattle.slots.specs.Lists.{In}
use Rattle.units.specs.Kinds.{Kind}
use Rattle.planning.specs.Requests.{in_window, enough}
use Rattle.planning.specs.Search.{free_from}
use Rattle.planning.specs.Policies.{Preference, Unbettered, best, first_of}
use Rattle.planning.specs.Rectangles.{rectangle}
use Rattle.planning.specs.Theorems.{AnyOrder}
use Rattle.planning.specs.declared.request.Request.{Request}
use Rattle.planning.specs.declared.rectangle.Rectangle.{Rectangle}
use Rattle.planning.proofs.Members.{in_map, map_in, in_kept, kept_in}
use Rattle.planning.proofs.Choices.{choice_best, choice_only}

module _ (policy : Preference) (rect : ℕ → Rectangle) (own : (s : ℕ) → (rect s).start ≡ s) where
  carried : (xs ys : List ℕ) → ((s : ℕ) → In s xs → In s ys) → (v : Rectangle) → In v (map rect xs) → In v (map rect ys)
  carried xs ys to v i =
      let from = map_in rect v xs i in
      subst (λ q. In q (map rect ys)) (sym from.2) (in_map rect from.0 ys (to from.0 from.1))

  by_start : (xs : List ℕ) (v : Rectangle) → In v (map rect xs) → v ≡ rect v.start
  by_start xs v i = let from = map_in rect v xs i in from.2 ∙ ap rect (sym (ap (λ (q : Rectangle). q.start) from.2 ∙ own from.0))

  same_choice : (xs ys : List ℕ) → ((s : ℕ) → In s xs → In s ys) → ((s : ℕ) → In s ys → In s xs) → first_of policy (map rect xs) ≡ first_of policy (map rect ys)
  same_choice [] [] to back = refl
  same_choice [] (y ∷ ys) to back = absurd (back y (inl refl))
  same_choice (x ∷ xs) [] to back = absurd (to x (inl refl))
  same_choice (x ∷ xs) (y ∷ ys) to back =
      let q = best policy (rect x) (map rect xs) in
      let r = best policy (rect y) (map rect ys) in
      let a = choice_best policy (map rect (x ∷ xs)) q refl in
      let b = choice_best policy (map rect (y ∷ ys)) r refl in
      let moved : Unbettered policy (map rect (y ∷ ys)) q =
      record {
        among = carried (x ∷ xs) (y ∷ ys) to q a.among;
        unbeaten = λ v i. a.unbeaten v (carried (y ∷ ys) (x ∷ xs) back v i);
        earliest = λ v i. a.earliest v (carried (y ∷ ys) (x ∷ xs) back v i);
      } in
      let same = choice_only policy (map rect (y ∷ ys)) q r moved b in
      ap Some (by_start (x ∷ xs) q a.among ∙ ap rect same ∙ sym (by_start (y ∷ ys) r b.among))

module _ {L : Type 0} (k : Kind L) (c : ℕ) (load : ℕ → L) (request : Request) where
  abbrev enough_at : ℕ → Bool
  enough_at s = enough request.wanted (free_from k c load request s)

  passed : (xs ys : List ℕ) → ((s : ℕ) → So (in_window request s) → In s xs → In s ys) → (s : ℕ) → In s (filter enough_at (filter (in_window request) xs)) → In s (filter enough_at (filter (in_window request) ys))
  passed xs ys to s i =
      let a = kept_in enough_at s (filter (in_window request) xs) i in
      let b = kept_in (in_window request) s xs a.0 in
      in_kept enough_at s (filter (in_window request) ys) (in_kept (in_window request) s ys (to s b.1 b.0) b.1) a.1

pub any_order : {L : Type 0} → AnyOrder L
any_order k c policy h load request xs ys to back =
    let pass = λ (ss : List ℕ). filter (enough_at k c load request) (filter (in_window request) ss) in
    same_choice policy (rectangle k c h load request) (λ s. refl) (pass xs) (pass ys) (passed k c load request xs ys to) (passed k c load request ys xs back)
