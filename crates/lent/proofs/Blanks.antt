-- Memory that holds a list and then blanks. Assumes nothing.
use Rattle.std.proofs.Common.{◌≡◌, ℕ, ◌+◌, ◌-◌, ◌≤◌, List, ◌++◌, length, take, drop, replicate, sym, refl, ap, subst, ◌∙◌, ap₂, arith}
use Rattle.std.proofs.lemmas.List.{append_assoc, length-append, length-take, length-drop, length-replicate, take_at, drop_at, drop-drop, take-append-drop, drop-append-le, drop-replicate, replicate-append-replicate}
use Rattle.lent.specs.Memory.{Laid, laid}

module _ {X : Type 0} (blank : X) where
  -- what is laid out is in use, and blanks stand behind it
  pub laid_holds : (room : ℕ) (xs memory : List X) → take (length xs) (laid blank room xs memory) ≡ xs
  laid_holds room xs memory = take_at xs (replicate (room - length xs) blank ++ drop room memory) (length xs) refl

  pub laid_length : (room : ℕ) (xs memory : List X) → length xs ≤ room → room ≤ length memory → length (laid blank room xs memory) ≡ length memory
  laid_length room xs memory l k = simp (length-append, length-replicate, length-drop) (omega arith)

  pub laid_is : (room : ℕ) (xs memory : List X) → length xs ≤ room → room ≤ length memory → Laid blank (length xs) room (laid blank room xs memory)
  laid_is room xs memory l k =
      let own = xs ++ replicate (room - length xs) blank in
      let long : length own ≡ room = simp (length-append, length-replicate) (omega arith) in
      let front : take room (laid blank room xs memory) ≡ own = ap (take room) (sym (append_assoc xs (replicate (room - length xs) blank) (drop room memory))) ∙ take_at own (drop room memory) room long in
      record {
        used_fits = l;
        room_fits = omega (arith, laid_length room xs memory l k);
        blank_behind = ap (drop (length xs)) front ∙ drop_at xs (replicate (room - length xs) blank) (length xs) refl;
      }

  module _ (used room : ℕ) (memory : List X) (h : Laid blank used room memory) where
    -- from any place behind the records on
    behind : (n : ℕ) → used ≤ n → n ≤ room → drop n memory ≡ replicate (room - n) blank ++ drop room memory
    behind n l k =
        let sum : used + (n - used) ≡ n = omega arith in
        let count : room - used - (n - used) ≡ room - n = omega arith in
        let fits = h.room_fits in
        ap (drop n) (sym (take-append-drop room memory)) ∙ drop-append-le n (take room memory) (drop room memory) (simp length-take (omega arith))
        ∙ ap (λ (ys : List X). ys ++ drop room memory) (sym (ap (λ (i : ℕ). drop i (take room memory)) sum) ∙ sym (drop-drop (n - used) used (take room memory)) ∙ ap (drop (n - used)) h.blank_behind ∙ drop-replicate (n - used) (room - used) blank ∙ ap (λ (i : ℕ). replicate i blank) count)

    -- the memory as it is
    pub laid_now : memory ≡ laid blank room (take used memory) memory
    laid_now =
        let fits = h.used_fits in
        let inside = h.room_fits in
        let long : length (take used memory) ≡ used = simp length-take (omega arith) in
        sym (take-append-drop used memory) ∙ ap (λ (ys : List X). take used memory ++ ys) (behind used (omega arith) fits)
        ∙ ap (λ (n : ℕ). take used memory ++ (replicate (room - n) blank ++ drop room memory)) (sym long)

    -- other records and blanks written over the front of it, up to a place behind the old ones
    pub laid_over : (n : ℕ) (xs : List X) → length xs ≤ n → used ≤ n → n ≤ room → xs ++ (replicate (n - length xs) blank ++ drop n memory) ≡ laid blank room xs memory
    laid_over n xs l u k =
        let sum : (n - length xs) + (room - n) ≡ room - length xs = omega arith in
        ap (λ (ys : List X). xs ++ (replicate (n - length xs) blank ++ ys)) (behind n u k)
        ∙ ap (λ (ys : List X). xs ++ ys) (sym (append_assoc (replicate (n - length xs) blank) (replicate (room - n) blank) (drop room memory)) ∙ ap (λ (ys : List X). ys ++ drop room memory) (replicate-append-replicate (n - length xs) (room - n) blank ∙ ap (λ (i : ℕ). replicate i blank) sum))

  -- the first elements of the memory, and blanks written behind them up to the room's end
  module _ (used room : ℕ) (memory ys : List X) (l : used ≤ room) (k : room ≤ length memory) (made : ys ≡ replicate (length (take (room - used) (drop used memory))) blank) where
    long : length (take used memory) ≡ used
    long = simp length-take (omega arith)

    pub laid_behind : take used memory ++ (ys ++ drop (room - used) (drop used memory)) ≡ laid blank room (take used memory) memory
    laid_behind =
        let own : length (take (room - used) (drop used memory)) ≡ room - length (take used memory) = simp (length-take, length-drop) (omega (arith, long)) in
        let sum : used + (room - used) ≡ room = omega arith in
        ap₂ (λ (zs rest : List X). take used memory ++ (zs ++ rest)) (made ∙ ap (λ (n : ℕ). replicate n blank) own) (drop-drop (room - used) used memory ∙ ap (λ (n : ℕ). drop n memory) sum)

    pub behind_is : Laid blank used room (take used memory ++ (ys ++ drop (room - used) (drop used memory)))
    behind_is = rw laid_behind (subst (λ (n : ℕ). Laid blank n room (laid blank room (take used memory) memory)) long (laid_is room (take used memory) memory (omega (arith, long)) k))
