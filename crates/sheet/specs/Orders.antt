-- What a line is: an order, a remark, or bad. Assumes nothing.
use Rattle.std.specs.Prelude.{◌≡◌, ℕ, ◌≤◌, cond, List, [], ◌∷◌, Some, None, Option, ◌==◌, slice_index}
use Rattle.std.specs.Option.{option_map}
use Rattle.std.specs.List.{AllByRecursion}
use Rattle.sheet.specs.declared.order.Order.{Order}
use Rattle.sheet.specs.declared.order.Order.TheVariants.{Hold, Cancel, Begin, Finish, List as Lists}
use Rattle.sheet.specs.Fields.{numbers_of, exactly, spaced}

-- the order that a letter makes of its numbers, where there are as many as it takes
abbrev pub hold_of : Option (List ℕ) → Option Order
hold_of ns = option_map (λ xs. Hold (slice_index xs 0) (slice_index xs 1) (slice_index xs 2) (slice_index xs 3) (slice_index xs 4)) (exactly 5 ns)

abbrev pub cancel_of : Option (List ℕ) → Option Order
cancel_of ns = option_map (λ xs. Cancel (slice_index xs 0)) (exactly 1 ns)

abbrev pub begin_of : Option (List ℕ) → Option Order
begin_of ns = option_map (λ xs. Begin (slice_index xs 0)) (exactly 1 ns)

abbrev pub finish_of : Option (List ℕ) → Option Order
finish_of ns = option_map (λ xs. Finish (slice_index xs 0)) (exactly 1 ns)

abbrev pub list_of : Option (List ℕ) → Option Order
list_of ns = option_map (λ xs. Lists) (exactly 0 ns)

-- the letters are P, C, B, F and L, by their codes
abbrev pub order_of : ℕ → Option (List ℕ) → Option Order
order_of letter ns =
    cond (letter == 80) (hold_of ns)
    (cond (letter == 67) (cancel_of ns)
    (cond (letter == 66) (begin_of ns)
    (cond (letter == 70) (finish_of ns)
    (cond (letter == 76) (list_of ns) None))))

-- an order as it is written: its letter, and its numbers with one space in front of each
abbrev pub letter_of : Order → ℕ
letter_of (Hold ready duration deadline wanted welcome) = 80
letter_of (Cancel number) = 67
letter_of (Begin number) = 66
letter_of (Finish number) = 70
letter_of Lists = 76

abbrev pub numbers_in : Order → List ℕ
numbers_in (Hold ready duration deadline wanted welcome) = ready ∷ duration ∷ deadline ∷ wanted ∷ welcome ∷ []
numbers_in (Cancel number) = number ∷ []
numbers_in (Begin number) = number ∷ []
numbers_in (Finish number) = number ∷ []
numbers_in Lists = []

abbrev pub written : Order → List ℕ
written o = letter_of o ∷ spaced [] (numbers_in o)

-- what a line is
pub data Content : Type 0 where
  entry : Order → Content
  remark : Content
  bad : Content

abbrev pub entry_or_bad : Option Order → Content
entry_or_bad (Some o) = entry o
entry_or_bad None = bad

-- an empty line and one that begins with # are remarks
abbrev pub content : List ℕ → Content
content [] = remark
content (b ∷ bs) = cond (b == 35) remark (entry_or_bad (order_of b (numbers_of bs)))

-- a line is an order exactly when it is that order written out, with numbers of 32 bits
pub record AsWritten (line : List ℕ) (o : Order) : Type 0 where
  pub reads : content line ≡ entry o → (line ≡ written o) × AllByRecursion (λ n. n ≤ 4294967295) (numbers_in o)
  pub writes : line ≡ written o → AllByRecursion (λ n. n ≤ 4294967295) (numbers_in o) → content line ≡ entry o

abbrev pub OrdersAsWritten : Type 0
OrdersAsWritten = (line : List ℕ) (o : Order) → AsWritten line o
