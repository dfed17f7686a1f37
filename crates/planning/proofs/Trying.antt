-- To try the starts one at a time and keep the better gives what is granted. Assumes nothing.
use Rattle.std.proofs.Common.{◌≡◌, ℕ, ◌-◌, Bool, false, ◌&&◌, List, [], ◌∷◌, ◌++◌, map, Some, None, filter, Option, sym, refl, ap, ◌∙◌, inl, inr}
use Rattle.std.proofs.lemmas.Bool.{cases_Bool, cond-true, cond-false, cond_both, and_from, and_left, and_right}
use Rattle.units.specs.Kinds.{Kind}
use Rattle.slots.specs.Stepped.{minutes}
use Rattle.planning.specs.Requests.{latest, in_window, enough}
use Rattle.planning.specs.Search.{free_from}
use Rattle.planning.specs.Policies.{Preference, best, first_of}
use Rattle.planning.specs.Searches.{loads, rectangle_in, granted_in}
use Rattle.planning.specs.Tries.{found_at, better_of, trying}
use Rattle.planning.specs.declared.find.Search.{Search}
use Rattle.planning.specs.declared.request.Request.{Request}
use Rattle.planning.specs.declared.rectangle.Rectangle.{Rectangle}

-- the best of some, with the best so far
abbrev so_far : Preference → Option Rectangle → List Rectangle → Option Rectangle
so_far p None rs = first_of p rs
so_far p (Some r) rs = Some (best p r rs)

so_far_none : (p : Preference) (b : Option Rectangle) → so_far p b [] ≡ b
so_far_none p None = refl
so_far_none p (Some r) = refl

so_far_one : (p : Preference) (b : Option Rectangle) (q : Rectangle) (rs : List Rectangle) → so_far p b (q ∷ rs) ≡ so_far p (better_of p b (Some q)) rs
so_far_one p None q rs = refl
so_far_one p (Some r) q rs = refl

module _ {L : Type 0} (k : Kind L) (p : Preference) (search : Search L) where
  abbrev request : Request
  request = search.request

  abbrev enough_at : ℕ → Bool
  enough_at s = enough request.wanted (free_from k search.capacity (loads k search) request s)

  abbrev rectangles : List ℕ → List Rectangle
  rectangles ss = map (rectangle_in k search) (filter enough_at (filter (in_window request) ss))

  skips : (b : Option Rectangle) (s : ℕ) → (in_window request s && enough_at s) ≡ false → better_of p b (found_at k search s) ≡ b
  skips b s e = ap (better_of p b) (cond-false _ (Some (rectangle_in k search s)) None e)

  in_turn : (b : Option Rectangle) (ss : List ℕ) → so_far p b (rectangles ss) ≡ trying k p search b ss
  in_turn b [] = so_far_none p b
  in_turn b (s ∷ ss) =
      elim (cases_Bool (in_window request s)) [
        | inr out ↦
            ap (λ q. so_far p b (map (rectangle_in k search) (filter enough_at q))) (cond-false _ (s ∷ filter (in_window request) ss) (filter (in_window request) ss) out)
            ∙ in_turn b ss
            ∙ sym (ap (λ v. trying k p search v ss) (skips b s (and_left (in_window request s) (enough_at s) out)))
        | inl inside ↦
            let outer = ap (λ q. so_far p b (map (rectangle_in k search) (filter enough_at q))) (cond-true _ (s ∷ filter (in_window request) ss) (filter (in_window request) ss) inside) in
            let left = filter enough_at (filter (in_window request) ss) in
            elim (cases_Bool (enough_at s)) [
              | inr short ↦
                  outer
                  ∙ ap (λ q. so_far p b (map (rectangle_in k search) q)) (cond-false _ (s ∷ left) left short)
                  ∙ in_turn b ss
                  ∙ sym (ap (λ v. trying k p search v ss) (skips b s (and_right (in_window request s) (enough_at s) short)))
              | inl enough-left ↦
                  let found = cond-true (in_window request s && enough_at s) (Some (rectangle_in k search s)) None (and_from (in_window request s) (enough_at s) inside enough-left) in
                  outer
                  ∙ ap (λ q. so_far p b (map (rectangle_in k search) q)) (cond-true _ (s ∷ left) left enough-left)
                  ∙ so_far_one p b (rectangle_in k search s) (rectangles ss)
                  ∙ in_turn (better_of p b (Some (rectangle_in k search s))) ss
                  ∙ sym (ap (λ v. trying k p search (better_of p b v) ss) found)
            ]
      ]

  -- what is granted
  pub granted_is : trying k p search None (request.ready ∷ latest request ∷ (minutes search.slots.now ++ map (λ m. m - request.duration) (minutes search.slots.now))) ≡ granted_in k p search
  granted_is = sym (in_turn None (request.ready ∷ latest request ∷ (minutes search.slots.now ++ map (λ m. m - request.duration) (minutes search.slots.now))))

  -- one start that is tried
  pub turn : (b more found : Option Rectangle) (s : ℕ) (ss : List ℕ) → found ≡ found_at k search s → more ≡ better_of p b found → trying k p search b (s ∷ ss) ≡ trying k p search more ss
  turn b more found s ss f m = sym (ap (λ v. trying k p search v ss) (m ∙ ap (better_of p b) f))

  -- and one that cannot be better
  pub passed_over : (b : Option Rectangle) (s : ℕ) (ss : List ℕ) → ((q : Rectangle) → q.start ≡ s → better_of p b (Some q) ≡ b) → trying k p search b (s ∷ ss) ≡ trying k p search b ss
  passed_over b s ss stays =
      ap (λ v. trying k p search v ss) (cond_both (in_window request s && enough_at s) (Some (rectangle_in k search s)) None (λ v. better_of p b v ≡ b) (λ _. stays (rectangle_in k search s) refl) (λ _. refl))

  pub in_parts : (b : Option Rectangle) (ss ts : List ℕ) → trying k p search b (ss ++ ts) ≡ trying k p search (trying k p search b ss) ts
  in_parts b [] ts = refl
  in_parts b (s ∷ ss) ts = in_parts (better_of p b (found_at k search s)) ss ts
