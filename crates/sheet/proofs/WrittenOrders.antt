-- A line is an order exactly when it is that order written out. Assumes nothing.
use Rattle.std.proofs.Common.{◌≡◌, ℕ, ◌≤◌, Bool, true, false, cond, eqb, List, [], ◌∷◌, length, get_or, Some, None, Option, refl, ap, ◌∙◌, subst, arith}
use Rattle.std.proofs.lemmas.Bool.{eqb-true}
use Rattle.std.specs.Option.{option_map}
use Rattle.std.specs.Bool.{then_some}
use Rattle.std.specs.List.{AllByRecursion}
use Rattle.sheet.specs.declared.order.Order.{Order}
use Rattle.sheet.specs.declared.order.Order.TheVariants.{Hold, Cancel, Begin, Finish, List as Lists}
use Rattle.sheet.specs.Fields.{numbers_of, exactly, spaced}
use Rattle.sheet.specs.Orders.{order_of, hold_of, cancel_of, begin_of, finish_of, list_of, letter_of, numbers_in, written, entry, remark, entry_or_bad, content, OrdersAsWritten}
use Rattle.sheet.proofs.WrittenNumbers.{numbers_read, numbers_written, none_some}

-- the letter and the numbers are those of the order
abbrev Of : ℕ → Option (List ℕ) → Order → Type 0
Of letter ns o = (letter ≡ letter_of o) × (ns ≡ Some (numbers_in o))

-- an order that a letter makes of k numbers has these numbers
module _ (letter k : ℕ) (make : List ℕ → Order) (letters : (xs : List ℕ) → letter ≡ letter_of (make xs)) (numbers : (xs : List ℕ) → length xs ≡ k → xs ≡ numbers_in (make xs)) where
  made_of : (ns : Option (List ℕ)) (o : Order) → option_map make (exactly k ns) ≡ Some o → Of letter ns o
  made_of None o e = absurd (none_some _ e)
  made_of (Some xs) o e = by_test (eqb (length xs) k) refl e
    where
      by_test : (v : Bool) → eqb (length xs) k ≡ v → option_map make (then_some v xs) ≡ Some o → Of letter (Some xs) o
      by_test true t e = let m : make xs ≡ o = cc in subst (Of letter (Some xs)) m (letters xs, ap Some (numbers xs (eqb-true _ _ t)))
      by_test false t e = absurd (none_some _ e)

five : (xs : List ℕ) → length xs ≡ 5 → xs ≡ get_or xs 0 0 ∷ get_or xs 1 0 ∷ get_or xs 2 0 ∷ get_or xs 3 0 ∷ get_or xs 4 0 ∷ []
five [] h = absurd (omega arith)
five (a ∷ []) h = absurd (omega arith)
five (a ∷ b ∷ []) h = absurd (omega arith)
five (a ∷ b ∷ c ∷ []) h = absurd (omega arith)
five (a ∷ b ∷ c ∷ d ∷ []) h = absurd (omega arith)
five (a ∷ b ∷ c ∷ d ∷ e ∷ []) h = refl
five (a ∷ b ∷ c ∷ d ∷ e ∷ f ∷ xs) h = absurd (omega arith)

one : (xs : List ℕ) → length xs ≡ 1 → xs ≡ get_or xs 0 0 ∷ []
one [] h = absurd (omega arith)
one (a ∷ []) h = refl
one (a ∷ b ∷ xs) h = absurd (omega arith)

none : (xs : List ℕ) → length xs ≡ 0 → xs ≡ []
none [] h = refl
none (a ∷ xs) h = absurd (omega arith)

order_read : (l : ℕ) (ns : Option (List ℕ)) (o : Order) → order_of l ns ≡ Some o → Of l ns o
order_read l ns o e = by_p (eqb l 80) refl e
  where
    at : (k : ℕ) → eqb l k ≡ true → Of k ns o → Of l ns o
    at k t h = (eqb-true l k t ∙ h.0, h.1)

    by_l : (v : Bool) → eqb l 76 ≡ v → cond v (list_of ns) None ≡ Some o → Of l ns o
    by_l true t e = at 76 t (made_of 76 0 (λ xs. Lists) (λ xs. refl) none ns o e)
    by_l false t e = absurd (none_some _ e)

    by_f : (v : Bool) → eqb l 70 ≡ v → cond v (finish_of ns) (cond (eqb l 76) (list_of ns) None) ≡ Some o → Of l ns o
    by_f true t e = at 70 t (made_of 70 1 (λ xs. Finish (get_or xs 0 0)) (λ xs. refl) one ns o e)
    by_f false t e = by_l (eqb l 76) refl e

    by_b : (v : Bool) → eqb l 66 ≡ v → cond v (begin_of ns) (cond (eqb l 70) (finish_of ns) (cond (eqb l 76) (list_of ns) None)) ≡ Some o → Of l ns o
    by_b true t e = at 66 t (made_of 66 1 (λ xs. Begin (get_or xs 0 0)) (λ xs. refl) one ns o e)
    by_b false t e = by_f (eqb l 70) refl e

    by_c : (v : Bool) → eqb l 67 ≡ v → cond v (cancel_of ns) (cond (eqb l 66) (begin_of ns) (cond (eqb l 70) (finish_of ns) (cond (eqb l 76) (list_of ns) None))) ≡ Some o → Of l ns o
    by_c true t e = at 67 t (made_of 67 1 (λ xs. Cancel (get_or xs 0 0)) (λ xs. refl) one ns o e)
    by_c false t e = by_b (eqb l 66) refl e

    by_p : (v : Bool) → eqb l 80 ≡ v → cond v (hold_of ns) (cond (eqb l 67) (cancel_of ns) (cond (eqb l 66) (begin_of ns) (cond (eqb l 70) (finish_of ns) (cond (eqb l 76) (list_of ns) None)))) ≡ Some o → Of l ns o
    by_p true t e = at 80 t (made_of 80 5 (λ xs. Hold (get_or xs 0 0) (get_or xs 1 0) (get_or xs 2 0) (get_or xs 3 0) (get_or xs 4 0)) (λ xs. refl) five ns o e)
    by_p false t e = by_c (eqb l 67) refl e

entry_from : (x : Option Order) (o : Order) → entry_or_bad x ≡ entry o → x ≡ Some o
entry_from None o e = let z : ◌≡◌ {A = ℕ} 0 1 = cc in absurd (omega arith)
entry_from (Some p) o e = cc

reads : (line : List ℕ) (o : Order) → content line ≡ entry o → (line ≡ written o) × AllByRecursion (λ n. n ≤ 4294967295) (numbers_in o)
reads [] o e = let z : ◌≡◌ {A = ℕ} 0 1 = cc in absurd (omega arith)
reads (b ∷ bs) o e = by_test (eqb b 35) refl e
  where
    by_test : (v : Bool) → eqb b 35 ≡ v → cond v remark (entry_or_bad (order_of b (numbers_of bs))) ≡ entry o → (b ∷ bs ≡ written o) × AllByRecursion (λ n. n ≤ 4294967295) (numbers_in o)
    by_test true t e = let z : ◌≡◌ {A = ℕ} 0 1 = cc in absurd (omega arith)
    by_test false t e =
        let of = order_read b (numbers_of bs) o (entry_from _ o e) in
        let ns = numbers_read (numbers_in o) bs of.1 in
        (ap (λ x. x ∷ bs) of.0 ∙ ap (λ xs. letter_of o ∷ xs) ns.0, ns.1)

content_at : (o : Order) (bs : List ℕ) → numbers_of bs ≡ Some (numbers_in o) → content (letter_of o ∷ bs) ≡ entry o
content_at (Hold a b c d e) bs h = ap (λ ns. entry_or_bad (hold_of ns)) h
content_at (Cancel n) bs h = ap (λ ns. entry_or_bad (cancel_of ns)) h
content_at (Begin n) bs h = ap (λ ns. entry_or_bad (begin_of ns)) h
content_at (Finish n) bs h = ap (λ ns. entry_or_bad (finish_of ns)) h
content_at Lists bs h = ap (λ ns. entry_or_bad (list_of ns)) h

pub as_written : OrdersAsWritten
as_written line o =
    record {
      reads = reads line o;
      writes = λ e small. ap content e ∙ content_at o (spaced [] (numbers_in o)) (numbers_written (numbers_in o) small);
    }
