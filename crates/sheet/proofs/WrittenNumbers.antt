-- The numbers that are read from a line are those that are written on it. Assumes nothing.
use Rattle.std.proofs.Common.{◌≡◌, ℕ, suc, ◌^◌, ◌<◌, ◌≤◌, Bool, true, false, cond, not, ◌&&◌, eqb, leb, List, [], ◌∷◌, ◌++◌, length, get_or, take, drop, Some, None, decimal, Option, sym, refl, ap, ◌∙◌, ⊎_elim, arith, rules, ne_eqb, le-leb}
use Rattle.std.proofs.lemmas.Fmt.{decimal_digit, decimal_nonempty, first_decimal, digits_decimal, digits_value-decimal, decimal-digits_value}
use Rattle.std.proofs.lemmas.List.{take-append-drop, take_at, drop_at}
use Rattle.std.proofs.lemmas.Str.Parse.{IsNumeralModel, numerals_by_fold, tells_all_ascii_digits}
use Rattle.std.proofs.lemmas.Bool.{cases_eq, eqb-true, leb-true, and_parts}
use Rattle.std.specs.Bool.{then_some}
use Rattle.std.specs.Char.{is_ascii_digit}
use Rattle.std.specs.List.{AllByRecursion}
use Rattle.std.specs.Str.{all_ascii_digits}
use Rattle.sheet.specs.Fields.{value_after, plain, number_of, with_first, numbers_of, spaced}
use Rattle.sheet.specs.Lines.{length_before}
use Rattle.sheet.proofs.FirstFields.{numbers_first, some_number}

own : IsNumeralModel (λ ds. all_ascii_digits ds ≡ true) (value_after 0)
own = numerals_by_fold _ tells_all_ascii_digits value_after (search rules)

pub none_some : {A : Type 0} (x : A) → None ≡ Some x → ⊥
none_some x e = let z : ◌≡◌ {A = ℕ} 0 1 = cc in omega arith

-- ---- one field

plain_some : (bs : List ℕ) → plain bs ≡ true → 0 < length bs
plain_some [] e = let z : ◌≡◌ {A = ℕ} 0 1 = cc in omega arith
plain_some (b ∷ bs) e = omega arith

plain_zero : (bs : List ℕ) → plain bs ≡ true → get_or bs 0 0 ≡ 48 → length bs ≡ 1
plain_zero [] e z = let z : ◌≡◌ {A = ℕ} 0 1 = cc in omega arith
plain_zero (b ∷ []) e z = refl
plain_zero (b ∷ c ∷ bs) e z = grind arith

plain_first : (bs : List ℕ) → 0 < length bs → 48 < get_or bs 0 0 → plain bs ≡ true
plain_first [] h f = absurd (omega arith)
plain_first (b ∷ []) h f = refl
plain_first (b ∷ c ∷ bs) h f = ap not (ne_eqb b 48 (λ e. omega arith))

plain_decimal : (n : ℕ) → n < 2 ^ 64 → plain (decimal n) ≡ true
plain_decimal n h =
    ⊎_elim
    (λ (z : n ≡ 0). ap (λ m. plain (decimal m)) z ∙ ap plain (decimal_digit 0 (omega arith)))
    (λ (z : n ≡ 0 → ⊥). plain_first (decimal n) (decimal_nonempty n h) (first_decimal n (omega arith) h))
    (cases_eq n 0)

number_written : (n : ℕ) → n ≤ 4294967295 → number_of (decimal n) ≡ Some n
number_written n h =
    let fits : n < 2 ^ 64 = omega arith in
    let v : value_after 0 (decimal n) ≡ n = digits_value-decimal own n fits in
    simp (plain_decimal n fits, digits_decimal own n fits, v, le-leb n 4294967295 h)

number_read : (bs : List ℕ) (n : ℕ) → number_of bs ≡ Some n → (bs ≡ decimal n) × (n ≤ 4294967295)
number_read bs n e = by_tests (plain bs) (all_ascii_digits bs) (leb (value_after 0 bs) 4294967295) refl refl refl e
  where
    by_tests : (p d s : Bool) → plain bs ≡ p → all_ascii_digits bs ≡ d → leb (value_after 0 bs) 4294967295 ≡ s → then_some (p && (d && s)) (value_after 0 bs) ≡ Some n → (bs ≡ decimal n) × (n ≤ 4294967295)
    by_tests true true true p d s e =
        let v : value_after 0 bs ≡ n = cc in
        let small : value_after 0 bs ≤ 4294967295 = leb-true _ _ s in
        (sym (decimal-digits_value own bs d (plain_some bs p) (plain_zero bs p) (omega arith)) ∙ ap decimal v, omega arith)
    by_tests true true false p d s e = absurd (none_some n e)
    by_tests true false s p d t e = absurd (none_some n e)
    by_tests false d s p t u e = absurd (none_some n e)

-- ---- all fields behind a letter

no_space : (b : ℕ) → is_ascii_digit b ≡ true → b ≡ 32 → ⊥
no_space b t e = let f : is_ascii_digit 32 ≡ true = ap is_ascii_digit (sym e) ∙ t in let z : ◌≡◌ {A = ℕ} 0 1 = cc in omega arith

before_space : (ds rest : List ℕ) → all_ascii_digits ds ≡ true → length_before 32 rest ≡ 0 → length_before 32 (ds ++ rest) ≡ length ds
before_space [] rest d z = z
before_space (b ∷ ds) rest d z =
    let both = and_parts (is_ascii_digit b) (all_ascii_digits ds) d in
    rw (ne_eqb b 32 (no_space b both.0)) (ap suc (before_space ds rest both.1 z))

spaced_ends : (ns : List ℕ) → length_before 32 (spaced [] ns) ≡ 0
spaced_ends [] = refl
spaced_ends (n ∷ ns) = refl

pub numbers_written : (ns : List ℕ) → AllByRecursion (λ n. n ≤ 4294967295) ns → numbers_of (spaced [] ns) ≡ Some ns
numbers_written [] h = refl
numbers_written (n ∷ ns) h =
    let rest = spaced [] ns in
    let e : length_before 32 (decimal n ++ rest) ≡ length (decimal n) = before_space (decimal n) rest (digits_decimal own n (omega (arith, h.0))) (spaced_ends ns) in
    let front : take (length_before 32 (decimal n ++ rest)) (decimal n ++ rest) ≡ decimal n = take_at (decimal n) rest _ (sym e) in
    let behind : drop (length_before 32 (decimal n ++ rest)) (decimal n ++ rest) ≡ rest = drop_at (decimal n) rest _ (sym e) in
    numbers_first (decimal n ++ rest) ∙ ap (λ f. with_first (number_of f) (numbers_of (drop (length_before 32 (decimal n ++ rest)) (decimal n ++ rest)))) front ∙ ap (λ b. with_first (number_of (decimal n)) (numbers_of b)) behind
    ∙ ap (λ o. with_first o (numbers_of rest)) (number_written n h.0) ∙ ap (with_first (Some n)) (numbers_written ns h.1)

with_first_parts : (o : Option ℕ) (ns : Option (List ℕ)) (m : ℕ) (ms : List ℕ) → with_first o ns ≡ Some (m ∷ ms) → (o ≡ Some m) × (ns ≡ Some ms)
with_first_parts None ns m ms e = absurd (none_some _ e)
with_first_parts (Some n) None m ms e = absurd (none_some _ e)
with_first_parts (Some n) (Some ns) m ms e = (cc, cc)

abbrev Reads : List ℕ → List ℕ → Type 0
Reads ns bs = (bs ≡ spaced [] ns) × AllByRecursion (λ n. n ≤ 4294967295) ns

pub numbers_read : (ns bs : List ℕ) → numbers_of bs ≡ Some ns → Reads ns bs
numbers_read [] [] e = (refl, tt)
numbers_read (n ∷ ns) [] e = let z : ◌≡◌ {A = ℕ} 0 1 = cc in absurd (omega arith)
numbers_read [] (b ∷ bs) e = absurd (some_number (b ∷ bs) (λ z. omega arith) e)
numbers_read (n ∷ ns) (b ∷ bs) e = by_test (eqb b 32) refl e (numbers_read ns)
  where
    by_test : (v : Bool) → eqb b 32 ≡ v → cond v (numbers_of (32 ∷ bs)) None ≡ Some (n ∷ ns) → ((xs : List ℕ) → numbers_of xs ≡ Some ns → Reads ns xs) → Reads (n ∷ ns) (b ∷ bs)
    by_test true t e more =
        let parts = with_first_parts (number_of (take (length_before 32 bs) bs)) (numbers_of (drop (length_before 32 bs) bs)) n ns (sym (numbers_first bs) ∙ e) in
        let one = number_read (take (length_before 32 bs) bs) n parts.0 in
        let rest = more (drop (length_before 32 bs) bs) parts.1 in
        let space = eqb-true b 32 t in
        let joined : bs ≡ decimal n ++ spaced [] ns = sym (take-append-drop (length_before 32 bs) bs) ∙ ap (λ f. f ++ drop (length_before 32 bs) bs) one.0 ∙ ap (λ r. decimal n ++ r) rest.0 in
        (ap (λ x. x ∷ bs) space ∙ ap (λ xs. 32 ∷ xs) joined, (one.1, rest.1))
    by_test false t e more = absurd (none_some _ e)
