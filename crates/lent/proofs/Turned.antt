-- What moves within a list. Assumes nothing.
use Rattle.std.proofs.Common.{◌≡◌, ℕ, suc, ◌+◌, ◌-◌, ◌<◌, List, [], ◌∷◌, ◌++◌, length, take, drop, set, sym, refl, ap, ◌∙◌, ap₂, arith}
use borrow.Rule.Slice.PartMut.{put_mid}
use Rattle.std.proofs.lemmas.List.{append_assoc, append-nil, take-take, take_all, drop-drop, drop_all, drop-take, length-take, length-drop, length-append, set_at}
use Rattle.std.specs.List.{insert, remove}

module _ {X : Type 0} where
  -- the one at the front is written over
  front : (zs ts : List X) (x : X) → length zs ≡ 1 → set (zs ++ ts) 0 x ≡ x ∷ ts
  front [] ts x h = absurd (omega arith)
  front (z ∷ []) ts x h = refl
  front (z ∷ (w ∷ r)) ts x h = absurd (omega arith)

  -- the one at the end is written over
  back : (ts zs : List X) (n : ℕ) (x : X) → length zs ≡ 1 → length ts ≡ n → set (ts ++ zs) n x ≡ ts ++ x ∷ []
  back ts [] n x h e = absurd (omega arith)
  back ts (z ∷ []) n x h e = set_at ts z [] x n e
  back ts (z ∷ (w ∷ r)) n x h e = absurd (omega arith)

  module _ (xs p ys : List X) (i : ℕ) (x : X) (lt : i < length xs) (is : p ≡ take (length xs - i) (drop i xs)) where
    -- the part is all that stands from i on
    rest : p ≡ drop i xs
    rest = is ∙ take_all (length xs - i) (drop i xs) (simp length-drop (omega arith))

    long : length p ≡ length xs - i
    long = ap length rest ∙ length-drop i xs

    none_behind : drop (length xs - i) (drop i xs) ≡ []
    none_behind = drop_all (length xs - i) (drop i xs) (simp length-drop (omega arith))

    pub opens : ys ≡ drop (length p - 1) p ++ take (length p - 1) p → put_mid i (length xs - i) xs (set ys 0 x) ≡ insert (take (length xs - 1) xs) i x
    opens turned =
        let one : length (drop (length p - 1) p) ≡ 1 = simp length-drop (omega (arith, long)) in
        let sum : i + (length p - 1) ≡ length xs - 1 = omega (arith, long) in
        let kept : take (length p - 1) p ≡ drop i (take (length xs - 1) xs) =
        ap (take (length p - 1)) rest ∙ sym (drop-take i (length p - 1) xs) ∙ ap (λ (n : ℕ). drop i (take n xs)) sum in
        ap₂ (λ (q r : List X). take i xs ++ (q ++ r)) (ap (λ (q : List X). set q 0 x) turned ∙ front (drop (length p - 1) p) (take (length p - 1) p) x one) none_behind
        ∙ ap (λ (q : List X). take i xs ++ q) (append-nil (x ∷ take (length p - 1) p))
        ∙ ap₂ (λ (q r : List X). q ++ x ∷ r) (sym (take-take i (length xs - 1) xs (omega arith))) kept

    pub closes : ys ≡ drop 1 p ++ take 1 p → put_mid i (length xs - i) xs (set ys (length ys - 1) x) ≡ remove xs i ++ x ∷ []
    closes turned =
        let one : length (take 1 p) ≡ 1 = simp length-take (omega (arith, long)) in
        let same : length ys ≡ length p = ap length turned ∙ simp (length-append, length-take, length-drop) (omega (arith, long)) in
        let on : i + 1 ≡ suc i = omega arith in
        let at : length (drop 1 p) ≡ length ys - 1 = simp length-drop (omega (arith, same)) in
        ap₂ (λ (q r : List X). take i xs ++ (q ++ r)) (ap (λ (q : List X). set q (length ys - 1) x) turned ∙ back (drop 1 p) (take 1 p) (length ys - 1) x one at) none_behind
        ∙ ap (λ (q : List X). take i xs ++ q) (append-nil (drop 1 p ++ x ∷ []) ∙ ap (λ (q : List X). q ++ x ∷ []) (ap (drop 1) rest ∙ drop-drop 1 i xs ∙ ap (λ (n : ℕ). drop n xs) on))
        ∙ sym (append_assoc (take i xs) (drop (suc i) xs) (x ∷ []))
