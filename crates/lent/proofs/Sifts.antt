-- Items that pass through a sieve, one after the other in the memory where they stand. Assumes nothing.
use Rattle.std.proofs.Common.{◌≡◌, ℕ, ◌+◌, ◌-◌, ◌<◌, ◌≤◌, List, [], ◌∷◌, ◌++◌, length, take, drop, set, get_or, replicate, Option, None, Some, sym, ap, ◌∙◌, ap₂, arith}
use borrow.Rule.Slice.PartMut.{put_mid}
use Rattle.std.proofs.lemmas.List.{append_assoc, append-nil, length-take-le, length-drop, drop-drop, drop_all, drop_more, drop-set-lt, take_more_set}
use Rattle.lent.specs.Sifting.{led_by, sifted}

-- ys is what stands in memory once the first i of xs have passed, of which n are left
module _ {S T : Type 0} (left : S → T → Option T) (after : S → T → S) (xs ys all : List T) (s : S) (i n : ℕ) (same : length ys ≡ length xs)
    (behind : n ≤ i) (rest : drop i ys ≡ drop i xs) (made : take n ys ++ sifted left after s (drop i xs) ≡ all) where
  module _ (there : i < length xs) (x : T) (is : x ≡ get_or ys i x) where
    pub rest_more : drop (i + 1) ys ≡ drop (i + 1) xs
    rest_more = sym (drop-drop 1 i ys) ∙ ap (drop 1) rest ∙ drop-drop 1 i xs

    on : sifted left after s (drop i xs) ≡ led_by (left s x) (sifted left after (after s x) (drop (i + 1) xs))
    on = ap (sifted left after s) (sym rest ∙ drop_more ys i x (omega (arith, same)) ∙ ap₂ (λ y (zs : List T). y ∷ zs) (sym is) rest_more)

    pub passed : None ≡ left s x → take n ys ++ sifted left after (after s x) (drop (i + 1) xs) ≡ all
    passed e = ap (λ (zs : List T). take n ys ++ zs) (sym (on ∙ ap (λ o. led_by o (sifted left after (after s x) (drop (i + 1) xs))) (sym e))) ∙ made

    module _ (y : T) (e : Some y ≡ left s x) where
      pub rest_set : drop (i + 1) (set ys n y) ≡ drop (i + 1) xs
      rest_set = drop-set-lt (i + 1) ys n y (omega arith) ∙ rest_more

      pub kept : take (n + 1) (set ys n y) ++ sifted left after (after s x) (drop (i + 1) xs) ≡ all
      kept =
          let others = sifted left after (after s x) (drop (i + 1) xs) in
          ap (λ (zs : List T). zs ++ others) (take_more_set ys n y (omega (arith, same))) ∙ append_assoc (take n ys) (y ∷ []) others
          ∙ ap (λ (zs : List T). take n ys ++ zs) (sym (on ∙ ap (λ o. led_by o others) (sym e))) ∙ made

  pub front : length xs ≤ i → take n ys ≡ all
  front end = sym (append-nil (take n ys)) ∙ ap (λ (zs : List T). take n ys ++ sifted left after s zs) (sym (drop_all i xs end)) ∙ made

  pub count : length xs ≤ i → i ≤ length xs → n ≡ length all
  count end short = sym (length-take-le n ys (omega (arith, same))) ∙ ap length (front end)

-- what is left, and blanks behind it
pub blanked : {T : Type 0} (own xs is : List T) (blank : T) (n used : ℕ) → length own ≡ used → n ≤ used → n ≡ length xs → take n own ≡ xs
    → is ≡ replicate (length (take (length own - n) (drop n own))) blank → put_mid n (length own - n) own is ≡ xs ++ replicate (used - length xs) blank
blanked {T = T} own xs is blank n used long le count front made =
    let all : length (take (length own - n) (drop n own)) ≡ used - length xs = length-take-le (length own - n) (drop n own) (omega (arith, length-drop n own)) ∙ ap₂ (λ (j k : ℕ). j - k) long count in
    let none : drop (length own - n) (drop n own) ≡ [] = drop_all (length own - n) (drop n own) (omega (arith, length-drop n own)) in
    ap₂ (λ (zs ws : List T). zs ++ (ws ++ drop (length own - n) (drop n own))) front (made ∙ ap (λ (k : ℕ). replicate k blank) all)
    ∙ ap (λ (zs : List T). xs ++ (replicate (used - length xs) blank ++ zs)) none ∙ ap (λ (zs : List T). xs ++ zs) (append-nil (replicate (used - length xs) blank))
