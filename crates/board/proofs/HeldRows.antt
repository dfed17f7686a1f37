-- A walk over rows for one that is held. Assumes nothing.
use Rattle.std.proofs.Common.{◌≡◌, ℕ, ◌+◌, ◌<◌, ◌≤◌, Bool, true, false, ◌||◌, List, ◌∷◌, length, get_or, drop, sym, ap, ◌∙◌}
use Rattle.std.proofs.lemmas.List.{drop_more, drop_all}
use Rattle.bookings.specs.declared.row.Row.{Row}
use Rattle.board.specs.Files.{is_held, some_held}

module _ {L : Type 0} (rows : List (Row L)) (i : ℕ) (passed : some_held (drop i rows) ≡ some_held rows) where
  module _ (r : Row L) (lt : i < length rows) (read : r ≡ get_or rows i r) where
    turn : some_held (drop i rows) ≡ is_held r.state || some_held (drop (i + 1) rows)
    turn = ap some_held (drop_more rows i r lt ∙ ap (λ x. x ∷ drop (i + 1) rows) (sym read))

    pub none_yet : is_held r.state ≡ false → some_held (drop (i + 1) rows) ≡ some_held rows
    none_yet e = sym (turn ∙ ap (λ (b : Bool). b || some_held (drop (i + 1) rows)) e) ∙ passed

    pub one_held : is_held r.state ≡ true → true ≡ some_held rows
    one_held e = sym (turn ∙ ap (λ (b : Bool). b || some_held (drop (i + 1) rows)) e) ∙ passed

  pub none_held : length rows ≤ i → false ≡ some_held rows
  none_held l = sym (ap some_held (drop_all i rows l)) ∙ passed
