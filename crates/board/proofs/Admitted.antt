-- The rows of a file that are added one after the other: a turn of the loop. Assumes nothing.
use Rattle.std.proofs.Common.{◌≡◌, ℕ, suc, ◌+◌, ◌<◌, ◌≤◌, Bool, true, false, cond, List, [], ◌∷◌, ◌++◌, map, length, get_or, take, drop, Some, Ok, Err, Result, sym, refl, ap, ◌∙◌, subst, ap₂, add-one, arith}
use Rattle.std.proofs.lemmas.List.{length-map, length-take-le, drop_more, drop_all, take_all, map_more}
use Rattle.units.specs.Kinds.{Kind}
use Rattle.bookings.specs.Rows.{Book, bookings, Numbered}
use Rattle.bookings.specs.declared.booking.Booking.{Booking}
use Rattle.bookings.specs.declared.refusal.FileFault.{FileFault}
use Rattle.bookings.specs.declared.refusal.FileFault.TheVariants as fault
use Rattle.bookings.specs.declared.row.Row.{Row}
use Rattle.bookings.proofs.Numbers.{bookings_more, numbers_more}
use Rattle.boardfile.specs.Faults.{row_allowed, fits_in, rows_fault}
use Rattle.boardfile.specs.Files.{row_in}
use Rattle.boardfile.specs.Filings.{Filing}
use Rattle.boardfile.specs.Reading.{read_row}
use Rattle.boardfile.specs.declared.header.Header.{Header}
use Rattle.board.specs.Adding.{MayEnter, with_row, emptied}
use Rattle.board.specs.Calls.{Holding}
use Rattle.board.specs.Keeping.{Proper}
use Rattle.board.specs.FileSteps.{fault_result, headed}
use Rattle.board.proofs.Admits.{row_is_allowed, allowed_proper}

-- a choice by a test, told by what it came to
taken_ok : {A : Type 0} (t : Bool) (x y : A) (why : FileFault) → ◌≡◌ {A = Result A FileFault} (Ok x) (cond t (Ok y) (Err why)) → (t ≡ true) × (x ≡ y)
taken_ok true x y why e = (refl, cc)
taken_ok false x y why e = let z : ◌≡◌ {A = ℕ} 0 1 = cc in absurd (omega arith)

taken_err : {A : Type 0} (t : Bool) (y : A) (why is : FileFault) → ◌≡◌ {A = Result A FileFault} (Err is) (cond t (Ok y) (Err why)) → (t ≡ false) × (is ≡ why)
taken_err true y why is e = let z : ◌≡◌ {A = ℕ} 0 1 = cc in absurd (omega arith)
taken_err false y why is e = (refl, cc)

-- numbers below one are below any that is no smaller
raised : {L : Type 0} (low high next : ℕ) (rows : List (Row L)) → high ≤ next → Numbered low high rows → Numbered low next rows
raised low high next [] l h = omega arith
raised low high next (r ∷ rows) l h = (h.0, raised (suc r.number) high next rows l h.1)

module _ {L : Type 0} (k : Kind L) (f : Filing L) (header : Header) (cs : List (List ℕ)) (room : ℕ) where
  -- the first i rows have been added, and the numbers from low on are to be had
  pub record Reading (i low : ℕ) (board : Holding L) : Type 0 where
    pub book_is : board.book ≡ headed header room (map (row_in f) (take i cs))
    pub numbers : Numbered 1 low (map (row_in f) (take i cs))
    pub fault_is : rows_fault k header low (bookings (map (row_in f) (take i cs))) i (map (row_in f) (drop i cs)) ≡ rows_fault k header 1 [] 0 (map (row_in f) cs)

  pub none_read : (board : Holding L) → board ≡ emptied header.capacity header.horizon room header.next → Reading 0 1 board
  none_read board e = record { book_is = ap (λ b. b.book) e; numbers = omega arith; fault_is = refl }

  module _ (i low : ℕ) (board : Holding L) (here : Reading i low board) where
    abbrev above : List (Row L)
    above = map (row_in f) (take i cs)

    module _ (lt : i < length cs) where
      abbrev b : List ℕ
      b = get_or cs i []

      abbrev r : Row L
      r = row_in f b

      abbrev rest : List (Row L)
      rest = map (row_in f) (drop (i + 1) cs)

      front : map (row_in f) (take (i + 1) cs) ≡ above ++ (r ∷ [])
      front = map_more (row_in f) cs i [] lt

      turn : map (row_in f) (drop i cs) ≡ r ∷ rest
      turn = ap (map (row_in f)) (drop_more cs i [] lt)

      step : cond (row_allowed k header low r) (cond (fits_in k header.capacity (bookings above) r.booking) (rows_fault k header (suc r.number) (bookings above ++ (r.booking ∷ [])) (suc i) rest) (Some (fault.Clash i))) (Some (fault.Row i)) ≡ rows_fault k header 1 [] 0 (map (row_in f) cs)
      step = sym (ap (rows_fault k header low (bookings above) i) turn) ∙ here.fault_is

      -- a row that breaks a rule
      pub row_fault : (why : FileFault) → Err why ≡ read_row k f header low i b → Err why ≡ fault_result (rows_fault k header 1 [] 0 (map (row_in f) cs))
      row_fault why e =
          let t = taken_err (row_allowed k header low r) r (fault.Row i) why e in
          ap (λ w. Err w) t.1 ∙ ap fault_result (sym (ap (λ (q : Bool). cond q (cond (fits_in k header.capacity (bookings above) r.booking) (rows_fault k header (suc r.number) (bookings above ++ (r.booking ∷ [])) (suc i) rest) (Some (fault.Clash i))) (Some (fault.Row i))) t.0) ∙ step)

      -- a row that keeps the rules
      module _ (row : Row L) (read : Ok row ≡ read_row k f header low i b) where
        good : (row_allowed k header low r ≡ true) × (row ≡ r)
        good = taken_ok (row_allowed k header low r) row r (fault.Row i) read

        pub number_small : row.number < header.next
        number_small = omega (arith, (row_is_allowed k header low r good.0).below_next, ap (λ x. x.number) good.1)

        many : length board.book.rows ≡ i
        many = ap (λ q. length q.rows) here.book_is ∙ length-map (take i cs) (row_in f) ∙ length-take-le i cs (omega arith)

        pub row_enters : length cs ≤ room → header.next ≤ 100000 → MayEnter k board board.book.next row
        row_enters fit small =
            let rules = row_is_allowed k header low r good.0 in
            let enters : MayEnter k board board.book.next r = record {
              a_row_left = omega (arith, many, ap (λ q. q.room) here.book_is);
              numbers = subst (Numbered 1 r.number) (sym (ap (λ q. q.rows) here.book_is)) (raised 1 low r.number above rules.from_low here.numbers);
              below_next = omega (arith, rules.below_next, ap (λ q. q.next) here.book_is);
              next_fits = omega (arith, ap (λ q. q.next) here.book_is);
              proper = subst (λ (h : ℕ). Proper k h r) (sym (ap (λ q. q.horizon) here.book_is)) (allowed_proper k header low r rules);
            } in
            subst (MayEnter k board board.book.next) (sym good.1) enters

        -- whether it fits in
        same_test : fits_in k board.book.capacity (bookings board.book.rows) row.booking ≡ fits_in k header.capacity (bookings above) r.booking
        same_test = ap (λ q. fits_in k q.capacity (bookings q.rows) row.booking) here.book_is ∙ ap (λ x. fits_in k header.capacity (bookings above) x.booking) good.1

        by_rules : cond (fits_in k header.capacity (bookings above) r.booking) (rows_fault k header (suc r.number) (bookings above ++ (r.booking ∷ [])) (suc i) rest) (Some (fault.Clash i)) ≡ rows_fault k header 1 [] 0 (map (row_in f) cs)
        by_rules = sym (ap (λ (q : Bool). cond q (cond (fits_in k header.capacity (bookings above) r.booking) (rows_fault k header (suc r.number) (bookings above ++ (r.booking ∷ [])) (suc i) rest) (Some (fault.Clash i))) (Some (fault.Row i))) good.0) ∙ step

        pub row_clash : (why : FileFault) → ◌≡◌ {A = Result (Unit {0}) FileFault} (Err why) (cond (fits_in k board.book.capacity (bookings board.book.rows) row.booking) (Ok tt) (Err (fault.Clash i))) → Err why ≡ fault_result (rows_fault k header 1 [] 0 (map (row_in f) cs))
        row_clash why e =
            let t = taken_err (fits_in k board.book.capacity (bookings board.book.rows) row.booking) tt (fault.Clash i) why e in
            ap (λ w. Err w) t.1 ∙ ap fault_result (sym (ap (λ (q : Bool). cond q (rows_fault k header (suc r.number) (bookings above ++ (r.booking ∷ [])) (suc i) rest) (Some (fault.Clash i))) (sym same_test ∙ t.0)) ∙ by_rules)

        pub row_read : (x : Unit {0}) → ◌≡◌ {A = Result (Unit {0}) FileFault} (Ok x) (cond (fits_in k board.book.capacity (bookings board.book.rows) row.booking) (Ok tt) (Err (fault.Clash i))) → (next : Holding L) → next ≡ with_row k board board.book.next row → Reading (i + 1) (row.number + 1) next
        row_read x e next is =
            let t = taken_ok (fits_in k board.book.capacity (bookings board.book.rows) row.booking) x tt (fault.Clash i) e in
            let low-is : row.number + 1 ≡ suc r.number = add-one row.number ∙ ap (λ x. suc x.number) good.1 in
            let rules = row_is_allowed k header low r good.0 in
            record {
              book_is = ap (λ q. q.book) is ∙ ap₂ (λ (q : Book L) (y : Row L). record { capacity = q.capacity; horizon = q.horizon; room = q.room; next = q.next; rows = q.rows ++ (y ∷ []) }) here.book_is good.1 ∙ ap (headed header room) (sym front);
              numbers = subst (λ (n : ℕ). Numbered 1 n (map (row_in f) (take (i + 1) cs))) (sym low-is) (subst (Numbered 1 (suc r.number)) (sym front) (numbers_more 1 low (suc r.number) above r rules.from_low (omega arith) here.numbers));
              fault_is = ap₂ (λ (n : ℕ) (bs : List (Booking L)). rows_fault k header n bs (i + 1) rest) low-is (ap bookings front ∙ bookings_more above r)
                  ∙ ap (λ (j : ℕ). rows_fault k header (suc r.number) (bookings above ++ (r.booking ∷ [])) j rest) (add-one i)
                  ∙ sym (ap (λ (q : Bool). cond q (rows_fault k header (suc r.number) (bookings above ++ (r.booking ∷ [])) (suc i) rest) (Some (fault.Clash i))) (sym same_test ∙ t.0)) ∙ by_rules;
            }

    pub all_read : length cs ≤ i → (Ok tt ≡ fault_result (rows_fault k header 1 [] 0 (map (row_in f) cs))) × (board.book ≡ headed header room (map (row_in f) cs))
    all_read l = (
      ap fault_result (sym (ap (λ xs. rows_fault k header low (bookings above) i (map (row_in f) xs)) (drop_all i cs l)) ∙ here.fault_is),
      here.book_is ∙ ap (λ xs. headed header room (map (row_in f) xs)) (take_all i cs l),
    )

-- a fault is not done
pub no_fault_done : (r : Result (Unit {0}) FileFault) (why : FileFault) → r ≡ Err why → r ≡ Ok tt → ⊥
no_fault_done r why e d = let z : ◌≡◌ {A = ℕ} 0 1 = cc in omega arith
