-- How the number of a field grows digit by digit. Assumes nothing.
use Rattle.std.proofs.Common.{◌≡◌, ℕ, ◌+◌, ◌-◌, ◌*◌, ◌<◌, ◌≤◌, Bool, true, false, ◌&&◌, leb, List, [], ◌∷◌, length, get_or, drop, Some, None, Option, sym, refl, ap, ◌∙◌, arith, le-leb}
use borrow.Author.Tests.{lt-leb}
use Rattle.std.proofs.lemmas.List.{at_drop_more, at_drop_all}
use Rattle.std.proofs.lemmas.Bool.{leb-true, leb-false}
use Rattle.std.specs.Bool.{then_some}
use Rattle.std.specs.Char.{is_ascii_digit}
use Rattle.std.specs.Str.{all_ascii_digits}
use Rattle.sheet.specs.Fields.{value_after}
use Rattle.sheet.specs.FieldSteps.{with_digit, digits_after}

value_grows : (n : ℕ) (bs : List ℕ) → n ≤ value_after n bs
value_grows n [] = omega arith
value_grows n (b ∷ bs) = let h = value_grows (n * 10 + (b - 48)) bs in omega arith

-- what the digits bs write behind a number that may be missing
abbrev after : Option ℕ → List ℕ → Option ℕ
after None bs = None
after (Some n) bs = digits_after n bs

none_if_large : (n : ℕ) (bs : List ℕ) → 4294967295 < n → digits_after n bs ≡ None
none_if_large n bs h =
    let g : 4294967295 < value_after n bs = omega (arith, value_grows n bs) in
    elim (all_ascii_digits bs) as (λ v. then_some (v && leb (value_after n bs) 4294967295) (value_after n bs) ≡ None) [ true ↦ rw lt-leb | false ↦ refl ]

digits_step : (n b : ℕ) (bs : List ℕ) → digits_after n (b ∷ bs) ≡ after (with_digit n b) bs
digits_step n b bs = by_digit (is_ascii_digit b) (leb m 4294967295) refl
  where
    m : ℕ
    m = n * 10 + (b - 48)

    by_digit : (d s : Bool) → leb m 4294967295 ≡ s → then_some (d && all_ascii_digits bs && leb (value_after m bs) 4294967295) (value_after m bs) ≡ after (then_some (d && s) m) bs
    by_digit true true e = refl
    by_digit true false e = none_if_large m bs (leb-false _ _ e)
    by_digit false s e = refl

pub digits_end : (n : ℕ) (bs : List ℕ) (i : ℕ) → length bs ≤ i → n ≤ 4294967295 → digits_after n (drop i bs) ≡ Some n
digits_end n bs i h l = at_drop_all (digits_after n) bs i h ∙ rw le-leb

with_digit_fits : (n b m : ℕ) → Some m ≡ with_digit n b → m ≤ 4294967295
with_digit_fits n b m e = by_test (is_ascii_digit b) (leb k 4294967295) refl e
  where
    k : ℕ
    k = n * 10 + (b - 48)

    by_test : (d s : Bool) → leb k 4294967295 ≡ s → Some m ≡ then_some (d && s) k → m ≤ 4294967295
    by_test true true l e = let same : m ≡ k = cc in omega (arith, leb-true _ _ l)
    by_test true false l e = let z : ◌≡◌ {A = ℕ} 0 1 = cc in omega arith
    by_test false s l e = let z : ◌≡◌ {A = ℕ} 0 1 = cc in omega arith

-- one more digit of the field: the number goes on, or there is none
pub digits_go : (n m : ℕ) (bs : List ℕ) (i : ℕ) (all : Option ℕ) → i < length bs → Some m ≡ with_digit n (get_or bs i 0) → digits_after n (drop i bs) ≡ all → (m ≤ 4294967295) × (digits_after m (drop (i + 1) bs) ≡ all)
digits_go n m bs i all h e inv =
    (with_digit_fits n (get_or bs i 0) m e, ap (λ o. after o (drop (i + 1) bs)) e ∙ sym (digits_step n (get_or bs i 0) (drop (i + 1) bs)) ∙ sym (at_drop_more (digits_after n) bs i 0 h) ∙ inv)

pub digits_stop : (n : ℕ) (bs : List ℕ) (i : ℕ) (all : Option ℕ) → i < length bs → None ≡ with_digit n (get_or bs i 0) → digits_after n (drop i bs) ≡ all → None ≡ all
digits_stop n bs i all h e inv = ap (λ o. after o (drop (i + 1) bs)) e ∙ sym (digits_step n (get_or bs i 0) (drop (i + 1) bs)) ∙ sym (at_drop_more (digits_after n) bs i 0 h) ∙ inv
