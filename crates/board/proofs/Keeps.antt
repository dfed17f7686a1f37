-- Every call keeps what a board keeps, and finds room for its records. Assumes nothing.
use Rattle.std.proofs.Common.{◌≡◌, ℕ, suc, ◌+◌, ◌*◌, ◌<◌, ◌≤◌, Bool, true, false, cond, eqb, List, [], ◌∷◌, ◌++◌, length, Some, None, Option, sym, refl, ap, ◌∙◌, subst, inl, inr, arith, length-append}
use mathlib.Core.Path.{fun_ext}
use Rattle.std.proofs.lemmas.List.{length-map}
use Rattle.slots.specs.Lists.{In}
use Rattle.slots.specs.Stepped.{at, Canonical, edited}
use Rattle.slots.specs.Steps.{lacks}
use Rattle.slots.proofs.Unique.{canonical_ascending}
use Rattle.slots.proofs.Lacking.{two_more}
use Rattle.slots.proofs.Rooms.{room_enough}
use Rattle.units.specs.Kinds.{Kind, Laws, Lawful}
use Rattle.planning.specs.Policies.{Preference, found}
use Rattle.planning.specs.declared.request.Request.{Request}
use Rattle.bookings.specs.Bookings.{load_at, Sound, Within, FitsBeside, slot_list}
use Rattle.bookings.specs.Grants.{booking_of}
use Rattle.bookings.specs.Rows.{row_of, bookings, Numbered, numbered, replaced}
use Rattle.bookings.specs.declared.booking.Booking.{Booking}
use Rattle.bookings.specs.declared.refusal.Refusal.{Refusal}
use Rattle.bookings.specs.declared.row.Row.{Row}
use Rattle.bookings.specs.declared.row.State.{State}
use Rattle.bookings.specs.declared.row.State.TheVariants.{Blank, Held}
use Rattle.bookings.proofs.Boards.{addition_sound, removal_sound}
use Rattle.bookings.proofs.Few.{slots_few, ends, length_ends, at_an_end}
use Rattle.bookings.proofs.Found.{some_none, some_is, Right, found_right}
use Rattle.bookings.proofs.Lists.{slots_right, slots_only, slots_after_adding, slots_after_removing}
use Rattle.bookings.proofs.Numbers.{at_the_end, bookings_more, taken_out, kept_bookings, numbers_more, numbers_without, numbers_with, fewer, as_many}
use Rattle.board.specs.Adding.{MayEnter, with_row, NumbersFit, emptied}
use Rattle.board.specs.Calls.{Holding, set_up_check, opened, made, hold_check, Askable, found_on, with_booking, with_state, without_row}
use Rattle.board.specs.Keeping.{Proper, AllProper, Kept}
use Rattle.board.proofs.Checks.{unchecked, allowed}

-- ROWS THAT ARE PROPER

module _ {L : Type 0} (k : Kind L) (h : ℕ) where
  pub all_within : (rows : List (Row L)) → AllProper k h rows → Within h (bookings rows)
  all_within [] p = tt
  all_within (r ∷ rows) p = (p.0.ends_in_time, all_within rows p.1)

  proper_more : (rows : List (Row L)) (r : Row L) → AllProper k h rows → Proper k h r → AllProper k h (rows ++ (r ∷ []))
  proper_more [] r p q = (q, tt)
  proper_more (x ∷ rows) r p q = (p.0, proper_more rows r p.1 q)

  proper_without : (n : ℕ) (rows : List (Row L)) → AllProper k h rows → AllProper k h (replaced n [] rows)
  proper_without n [] p = tt
  proper_without n (x ∷ rows) p = go (eqb x.number n) (proper_without n rows p.1)
    where
      go : (t : Bool) → AllProper k h (replaced n [] rows) → AllProper k h (cond t rows (x ∷ replaced n [] rows))
      go true rest = p.1
      go false rest = (p.0, rest)

  proper_with : (n : ℕ) (rows : List (Row L)) (v : Row L) → AllProper k h rows → Proper k h v → AllProper k h (replaced n (v ∷ []) rows)
  proper_with n [] v p q = tt
  proper_with n (x ∷ rows) v p q = go (eqb x.number n) (proper_with n rows v p.1 q)
    where
      go : (t : Bool) → AllProper k h (replaced n (v ∷ []) rows) → AllProper k h (cond t (v ∷ rows) (x ∷ replaced n (v ∷ []) rows))
      go true rest = (q, p.1)
      go false rest = (p.0, rest)

  pub proper_one : (n : ℕ) (rows : List (Row L)) (r : Row L) → AllProper k h rows → numbered n rows ≡ Some r → Proper k h r
  proper_one n [] r p e = absurd (some_none r (sym e))
  proper_one n (x ∷ rows) r p e = go (eqb x.number n) (proper_one n rows r p.1) e
    where
      go : (t : Bool) → (numbered n rows ≡ Some r → Proper k h r) → cond t (Some x) (numbered n rows) ≡ Some r → Proper k h r
      go true rest q = subst (Proper k h) (some_is x r q) p.0
      go false rest q = rest q

-- a booking's start and end are among the ends of all
module _ {L : Type 0} where
  start_in : (n : ℕ) (rows : List (Row L)) (r : Row L) → numbered n rows ≡ Some r → In r.booking.start (ends (bookings rows))
  start_in n [] r e = absurd (some_none r (sym e))
  start_in n (x ∷ rows) r e = go (eqb x.number n) (start_in n rows r) e
    where
      go : (t : Bool) → (numbered n rows ≡ Some r → In r.booking.start (ends (bookings rows))) → cond t (Some x) (numbered n rows) ≡ Some r → In r.booking.start (ends (bookings (x ∷ rows)))
      go true rest q = inl (ap (λ v. v.booking.start) (sym (some_is x r q)))
      go false rest q = inr (inr (rest q))

  end_in : (n : ℕ) (rows : List (Row L)) (r : Row L) → numbered n rows ≡ Some r → In r.booking.end (ends (bookings rows))
  end_in n [] r e = absurd (some_none r (sym e))
  end_in n (x ∷ rows) r e = go (eqb x.number n) (end_in n rows r) e
    where
      go : (t : Bool) → (numbered n rows ≡ Some r → In r.booking.end (ends (bookings rows))) → cond t (Some x) (numbered n rows) ≡ Some r → In r.booking.end (ends (bookings (x ∷ rows)))
      go true rest q = inr (inl (ap (λ v. v.booking.end) (sym (some_is x r q))))
      go false rest q = inr (inr (rest q))

module _ {L : Type 0} (k : Kind L) (lawful : Lawful k) (floor : L) where
  -- MAKING

  pub emptied_kept : (c h room next : ℕ) → floor ≡ k.nothing → NumbersFit k c h next → room ≤ 256 → Kept k floor (emptied c h room next)
  emptied_kept c h room next is numbers rows = record {
    floor_is = is;
    capacity_fits = numbers.capacity_fits;
    horizon_fits = numbers.horizon_fits;
    horizon_open = numbers.horizon_open;
    next_fits = numbers.next_fits;
    room_fits = rows;
    rows_fit = omega arith;
    numbers = numbers.next_starts;
    proper = tt;
    sound = λ m. tt;
    agree = slots_only k c (lawful c numbers.capacity_fits) h [] [] tt tt (λ m. refl);
  }

  pub empty_kept : (c h room : ℕ) → floor ≡ k.nothing → c ≤ k.most → h ≤ 1048576 → (1 ≤ c → 1 ≤ h) → room ≤ 256 → Kept k floor (opened c h room)
  empty_kept c h room is units minutes some rows = emptied_kept c h room 1 is (record { capacity_fits = units; horizon_fits = minutes; horizon_open = some; next_starts = omega arith; next_fits = omega arith }) rows

  pub made_kept : (c h rows records : ℕ) → floor ≡ k.nothing → Kept k floor (made k c h rows records)
  made_kept c h rows records is = go (set_up_check k c h rows records) refl
    where
      go : (o : Option Refusal) → set_up_check k c h rows records ≡ o → Kept k floor (elim o as (λ _. Holding L) [ None ↦ opened c h rows | Some _ ↦ opened 0 0 0 ])
      go None e = let a = allowed k c h rows records e in empty_kept c h rows is a.units_fit a.minutes_fit (λ _. a.some_minutes) a.rows_fit
      go (Some _) e = empty_kept 0 0 0 is (omega arith) (omega arith) (λ p. absurd (omega arith)) (omega arith)

  -- WHAT A KEPT BOARD'S SLOT LIST SAYS

  module _ (board : Holding L) (kept : Kept k floor board) where
    abbrev c : ℕ
    c = board.book.capacity

    abbrev h : ℕ
    h = board.book.horizon

    abbrev bs : List (Booking L)
    bs = bookings board.book.rows

    pub laws : Laws k c
    laws = lawful c kept.capacity_fits

    pub inside : Within h bs
    inside = all_within k h board.book.rows kept.proper

    pub right : Canonical 0 k.nothing board.slots × ((m : ℕ) → at k.nothing board.slots m ≡ load_at k c bs m)
    right = subst (λ xs. Canonical 0 k.nothing xs × ((m : ℕ) → at k.nothing xs m ≡ load_at k c bs m)) (sym kept.agree) (slots_right k c laws h bs inside)

    pub few : length board.slots ≤ 2 * length board.book.rows
    few = omega (arith, slots_few k c laws bs board.slots right.0 right.1, length-map board.book.rows (λ r. r.booking))

    -- room for the records of one booking more
    pub room_to_enter : (from until : ℕ) → length board.book.rows < board.book.room → length board.slots + (lacks from board.slots + lacks until board.slots) ≤ 2 * board.book.room
    room_to_enter from until l = omega (arith, few, two_more from until board.slots)

    -- room for the records at the ends of a booking that stands
    pub room_to_remove : (n : ℕ) (r : Row L) → numbered n board.book.rows ≡ Some r → length board.slots + (lacks r.booking.start board.slots + lacks r.booking.end board.slots) ≤ 2 * board.book.room
    room_to_remove n r e =
        omega (arith, room_enough r.booking.start r.booking.end board.slots (ends bs) (proper_one k h n board.book.rows r kept.proper e).has_minutes (canonical_ascending 0 k.nothing board.slots right.0) (at_an_end k c laws bs board.slots right.0 right.1) (start_in n board.book.rows r e) (end_in n board.book.rows r e), length_ends bs, length-map board.book.rows (λ x. x.booking), kept.rows_fit)

    -- A ROW MORE

    -- below the others, whatever the next number is then
    more_kept : (next : ℕ) (r : Row L) → next ≤ 100000 → Numbered 1 next (board.book.rows ++ (r ∷ [])) → Proper k h r → FitsBeside k c bs r.booking → length board.book.rows < board.book.room → Kept k floor (with_row k board next r)
    more_kept next r small numbers this fits left =
        let x = r.booking in
        let more = bookings_more board.book.rows r in
        let all = proper_more k h board.book.rows r kept.proper this in
        let order = at_the_end bs x in
        record {
          floor_is = kept.floor_is;
          capacity_fits = kept.capacity_fits;
          horizon_fits = kept.horizon_fits;
          horizon_open = kept.horizon_open;
          next_fits = small;
          room_fits = kept.room_fits;
          rows_fit = omega (arith, length-append board.book.rows (r ∷ []));
          numbers = numbers;
          proper = all;
          sound = subst (Sound k c) (sym more) (addition_sound k c laws bs (bs ++ (x ∷ [])) x order kept.sound fits).sound;
          agree = ap (edited k.same (k.put c x.claim) x.start x.end k.nothing) kept.agree
              ∙ slots_after_adding k c laws h bs (bs ++ (x ∷ [])) x order inside (subst (Within h) more (all_within k h (board.book.rows ++ (r ∷ [])) all)) kept.sound fits
              ∙ ap (slot_list k c h) (sym more);
        }

    -- a row that may be entered
    pub enters_kept : (next : ℕ) (r : Row L) → MayEnter k board next r → FitsBeside k c bs r.booking → Kept k floor (with_row k board next r)
    enters_kept next r may fits = more_kept next r may.next_fits (numbers_more 1 r.number next board.book.rows r (omega arith) may.below_next may.numbers) may.proper fits may.a_row_left

    -- HOLD

    found_is : (request : Request) (policy : Preference) → found_on k board request policy ≡ booking_of request (found k c policy h (load_at k c bs) request (slot_list k c h bs))
    found_is request policy =
        ap (λ steps. booking_of request (found k c policy h (at k.nothing steps) request steps)) kept.agree
        ∙ ap (λ loads. booking_of request (found k c policy h loads request (slot_list k c h bs))) (fun_ext (slots_right k c laws h bs inside).1)

    module _ (request : Request) (policy : Preference) (free : hold_check board.book request ≡ None) (x : Booking L) (is : found_on k board request policy ≡ Some x) where
      asked : Askable board.book request
      asked = unchecked board.book request free

      pub best : Right k c laws h bs request policy x
      best = found_right k c laws h bs request policy asked.some_units asked.some_minutes x (sym (found_is request policy) ∙ is)

      pub given_in_time : x.end ≤ h
      given_in_time = omega (arith, best.lasts, best.in_time, asked.by_the_horizon)

      -- the row of what was found may be entered
      pub given_enters : MayEnter k board (suc board.book.next) (row_of board.book.next x Held)
      given_enters = record {
        a_row_left = asked.a_row_left;
        numbers = kept.numbers;
        below_next = omega arith;
        next_fits = omega (arith, asked.a_number_left);
        proper = record {
          has_minutes = omega (arith, best.lasts, asked.some_minutes);
          ends_in_time = given_in_time;
          takes_some = omega (arith, best.size, asked.some_units);
          not_blank = λ e. let z : ◌≡◌ {A = ℕ} 0 1 = cc in omega arith;
        };
      }

      pub given_kept : Kept k floor (with_booking k board x)
      given_kept = enters_kept (suc board.book.next) (row_of board.book.next x Held) given_enters best.fits

    -- MOVES

    module _ (n : ℕ) (r : Row L) (e : numbered n board.book.rows ≡ Some r) where
      pub state_kept : (s : State) → (s ≡ Blank → ⊥) → Kept k floor (with_state board n r s)
      state_kept s there =
          let v : Row L = row_of r.number r.booking s in
          let rows = replaced n (v ∷ []) board.book.rows in
          let was = proper_one k h n board.book.rows r kept.proper e in
          let same = kept_bookings n board.book.rows r v refl e in
          record {
            floor_is = kept.floor_is;
            capacity_fits = kept.capacity_fits;
            horizon_fits = kept.horizon_fits;
            horizon_open = kept.horizon_open;
            next_fits = kept.next_fits;
            room_fits = kept.room_fits;
            rows_fit = omega (arith, as_many n board.book.rows v, kept.rows_fit);
            numbers = numbers_with 1 board.book.next n board.book.rows r v refl e kept.numbers;
            proper = proper_with k h n board.book.rows v kept.proper (record { has_minutes = was.has_minutes; ends_in_time = was.ends_in_time; takes_some = was.takes_some; not_blank = there });
            sound = subst (Sound k c) (sym same) kept.sound;
            agree = kept.agree ∙ ap (slot_list k c h) (sym same);
          }

      pub gone_kept : Kept k floor (without_row k board n r)
      gone_kept =
          let others = bookings (replaced n [] board.book.rows) in
          let out = taken_out n board.book.rows r e in
          let all = proper_without k h n board.book.rows kept.proper in
          record {
            floor_is = kept.floor_is;
            capacity_fits = kept.capacity_fits;
            horizon_fits = kept.horizon_fits;
            horizon_open = kept.horizon_open;
            next_fits = kept.next_fits;
            room_fits = kept.room_fits;
            rows_fit = omega (arith, fewer n board.book.rows, kept.rows_fit);
            numbers = numbers_without 1 board.book.next n board.book.rows kept.numbers;
            proper = all;
            sound = (removal_sound k c laws bs others r.booking out kept.sound).sound;
            agree = ap (edited k.same (k.lift r.booking.claim) r.booking.start r.booking.end k.nothing) kept.agree
                ∙ slots_after_removing k c laws h bs others r.booking out inside (all_within k h _ all) kept.sound;
          }
