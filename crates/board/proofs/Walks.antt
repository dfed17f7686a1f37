-- A walk over rows for a number: what one row more says, and what it says where the walk ends. Assumes nothing.
use Rattle.std.proofs.Common.{◌≡◌, ℕ, ◌+◌, ◌<◌, ◌≤◌, Bool, cond, List, [], ◌∷◌, ◌++◌, length, get_or, take, drop, Some, None, sym, ap, ◌∙◌}
use Rattle.std.proofs.lemmas.List.{append_assoc, take_more, drop_more, drop_all, get_or_read}
use Rattle.std.proofs.lemmas.Bool.{eq-eqb, ne_eqb}
use Rattle.bookings.specs.Rows.{numbered, replaced}
use Rattle.bookings.specs.declared.row.Row.{Row}
use Rattle.board.specs.Places.{Placed}

module _ {L : Type 0} (n : ℕ) (rows : List (Row L)) where
  -- no row before i has the number
  abbrev pub Passed : ℕ → Type 0
  Passed i = (numbered n (drop i rows) ≡ numbered n rows) × ((these : List (Row L)) → take i rows ++ replaced n these (drop i rows) ≡ replaced n these rows)

  module _ (i : ℕ) (r : Row L) (lt : i < length rows) (read : r ≡ get_or rows i r) (passed : Passed i) where
    turn : drop i rows ≡ r ∷ drop (i + 1) rows
    turn = drop_more rows i r lt ∙ ap (λ x. x ∷ drop (i + 1) rows) (sym read)

    front : take (i + 1) rows ≡ take i rows ++ (r ∷ [])
    front = take_more rows i r lt ∙ ap (λ x. take i rows ++ (x ∷ [])) (sym read)

    pub not_here : (r.number ≡ n → ⊥) → Passed (i + 1)
    not_here other =
        let test = ne_eqb r.number n other in (
          sym (ap (numbered n) turn ∙ ap (λ (t : Bool). cond t (Some r) (numbered n (drop (i + 1) rows))) test) ∙ passed.0,
          λ these. ap (λ xs. xs ++ replaced n these (drop (i + 1) rows)) front ∙ append_assoc (take i rows) (r ∷ []) (replaced n these (drop (i + 1) rows))
              ∙ sym (ap (λ xs. take i rows ++ xs) (ap (replaced n these) turn ∙ ap (λ (t : Bool). cond t (these ++ drop (i + 1) rows) (r ∷ replaced n these (drop (i + 1) rows))) test)) ∙ passed.1 these,
        )

    pub here : r.number ≡ n → Placed n rows (Some i)
    here same =
        let test = eq-eqb r.number n same in (
          lt,
          λ d. sym passed.0 ∙ ap (numbered n) turn ∙ ap (λ (t : Bool). cond t (Some r) (numbered n (drop (i + 1) rows))) test ∙ ap (λ x. Some x) (get_or_read rows i r lt read d),
          λ these. sym (passed.1 these) ∙ ap (λ xs. take i rows ++ xs) (ap (replaced n these) turn ∙ ap (λ (t : Bool). cond t (these ++ drop (i + 1) rows) (r ∷ replaced n these (drop (i + 1) rows))) test),
        )

  pub nowhere : (i : ℕ) → length rows ≤ i → Passed i → numbered n rows ≡ None
  nowhere i l passed = sym passed.0 ∙ ap (numbered n) (drop_all i rows l)
