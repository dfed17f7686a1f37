-- The promise, from what every board keeps and that its book is the ledger. Assumes nothing.
use Rattle.std.proofs.Common.{◌≡◌, ℕ, cond, ◌⊎◌, ◌↔◌, List, ◌∷◌, ◌++◌, Some, None, Option, sym, refl, ap, ◌∙◌, subst, inl, inr, arith}
use mathlib.Core.Path.{fun_ext}
use Rattle.slots.specs.Lists.{Reordered}
use Rattle.slots.specs.Stepped.{at}
use Rattle.slots.proofs.Unique.{unique}
use Rattle.units.specs.Kinds.{Kind, Laws, Lawful}
use Rattle.planning.specs.Policies.{Preference, found}
use Rattle.planning.specs.declared.request.Request.{Request}
use Rattle.bookings.specs.Bookings.{standing, load_at, slot_list, Sound, FitsBeside}
use Rattle.bookings.specs.Rows.{Book, bookings}
use Rattle.bookings.specs.Table.{Fate, becomes, leaves, barred, fate}
use Rattle.bookings.specs.Grants.{booking_of}
use Rattle.bookings.specs.declared.booking.Booking.{Booking}
use Rattle.bookings.specs.declared.event.Event.{Event}
use Rattle.bookings.specs.declared.event.Event.TheVariants.{Confirm, Release, Cancel, Begin, Finish}
use Rattle.bookings.specs.declared.refusal.Refusal.{Refusal}
use Rattle.bookings.specs.declared.refusal.Refusal.TheVariants.{NoGap, NotHeld, NoSuchBooking, WrongState}
use Rattle.bookings.proofs.Boards.{removal_sound}
use Rattle.bookings.proofs.Found.{some_none, found_none}
use Rattle.bookings.proofs.Numbers.{to_front, numbered_is, numbered_none}
use Rattle.bookings.proofs.Orders.{order_is_free, units_conserved}
use Rattle.board.specs.Calls.{Holding, Askable, hold, Answer, given, refused, hold_check, found_on, no_row, wrong_state, hold_answer, fate_answer, move_answer, answer}
use Rattle.board.specs.Keeping.{Kept}
use Rattle.board.proofs.Checks.{unchecked}
use Rattle.board.proofs.Keeps.{laws, inside, right, few, best}
use Rattle.lines.specs.Lines.{Line, board_of}
use Rattle.lines.specs.Ledger.{ledger_of}
use Rattle.lines.specs.Promise.{by_token, by_table, RoomFor, Best, PromiseBeside, LinesPromise}
use Rattle.lines.proofs.Checked.{askable, no_gap_unchecked}
use Rattle.lines.proofs.Noted.{book_is, all_kept}
use Rattle.lines.proofs.Stays.{all_stay, shifts_none}

-- MOVES

-- the refusals of an event, by whether it takes a token
refusals : (event : Event) → (no_row event ≡ cond (by_token event) NotHeld NoSuchBooking) × (wrong_state event ≡ cond (by_token event) NotHeld WrongState)
refusals Confirm = (refl, refl)
refusals Release = (refl, refl)
refusals Cancel = (refl, refl)
refusals Begin = (refl, refl)
refusals Finish = (refl, refl)

table_told : {L : Type 0} (event : Event) (f : Fate) → fate_answer {L = L} event f ≡ by_table event f
table_told event (becomes s) = refl
table_told event leaves = refl
table_told event barred = ap refused (refusals event).1

module _ {L : Type 0} (k : Kind L) (lawful : Lawful k) (board : Holding L) (kept : Kept k k.nothing board) where
  abbrev c : ℕ
  c = board.book.capacity

  abbrev h : ℕ
  h = board.book.horizon

  abbrev bs : List (Booking L)
  bs = bookings board.book.rows

  abbrev lawful_here : Laws k c
  lawful_here = laws k lawful k.nothing board kept

  abbrev says : (m : ℕ) → at k.nothing board.slots m ≡ load_at k c bs m
  says = (right k lawful k.nothing board kept).1

  -- HOLD

  module _ (request : Request) (policy : Preference) where
    found_is : found_on k board request policy ≡ booking_of request (found k c policy h (load_at k c bs) request (slot_list k c h bs))
    found_is =
        ap (λ loads. booking_of request (found k c policy h loads request board.slots)) (fun_ext says)
        ∙ ap (λ steps. booking_of request (found k c policy h (load_at k c bs) request steps)) kept.agree

    abbrev OneOf : Answer L → Type 0
    OneOf told = ((n : ℕ) × (x : Booking L) × (told ≡ given n x)) ⊎ (told ≡ refused NoGap)

    one_of : Askable board.book request → OneOf (answer k board (hold request policy))
    one_of asked = subst (λ o. OneOf (hold_answer board o (found_on k board request policy))) (sym (askable board.book request asked)) (go (found_on k board request policy))
      where
        go : (q : Option (Booking L)) → OneOf (hold_answer board None q)
        go None = inr refl
        go (Some x) = inl (board.book.next, x, refl)

    room : hold_check board.book request ≡ None → (x : Booking L) → found_on k board request policy ≡ Some x → RoomFor k board.book request
    room e x f =
        let is = best k lawful k.nothing board kept request policy e x f in
        (x.start, x.claim, is.ready, is.in_time, is.size, subst (FitsBeside k c bs) (ap (λ (v : ℕ). record { start = x.start; end = v; claim = x.claim }) is.lasts) is.fits)

    exactly : (answer k board (hold request policy) ≡ refused NoGap) ↔ (Askable board.book request × (RoomFor k board.book request → ⊥))
    exactly = go (hold_check board.book request) refl (found_on k board request policy) refl
      where
        go : (o : Option Refusal) → hold_check board.book request ≡ o → (q : Option (Booking L)) → found_on k board request policy ≡ q → (hold_answer board o q ≡ refused NoGap) ↔ (Askable board.book request × (RoomFor k board.book request → ⊥))
        go (Some why) e q f = (
          λ a. let is : why ≡ NoGap = cc in absurd (no_gap_unchecked board.book request (e ∙ ap (λ v. Some v) is)),
          λ free. absurd (some_none why (sym e ∙ askable board.book request free.0)),
        )
        go None e None f =
            let asked = unchecked board.book request e in
            (λ a. (asked, found_none k c lawful_here h bs request policy kept.sound (inside k lawful k.nothing board kept) asked.some_units asked.some_minutes (sym found_is ∙ f)), λ free. refl)
        go None e (Some x) f = (λ a. let z : ◌≡◌ {A = ℕ} 0 1 = cc in absurd (omega arith), λ free. absurd (free.1 (room e x f)))

    best_of : (n : ℕ) (x : Booking L) → answer k board (hold request policy) ≡ given n x → Best k board.book request policy n x
    best_of n x = go (hold_check board.book request) refl (found_on k board request policy) refl
      where
        go : (o : Option Refusal) → hold_check board.book request ≡ o → (q : Option (Booking L)) → found_on k board request policy ≡ q → hold_answer board o q ≡ given n x → Best k board.book request policy n x
        go (Some why) e q f a = let z : ◌≡◌ {A = ℕ} 0 1 = cc in absurd (omega arith)
        go None e None f a = let z : ◌≡◌ {A = ℕ} 0 1 = cc in absurd (omega arith)
        go None e (Some y) f a =
            let same : y ≡ x = cc in
            let under : n ≡ board.book.next = cc in
            let is = best k lawful k.nothing board kept request policy e x (f ∙ ap (λ v. Some v) same) in
            record {
              asked = unchecked board.book request e;
              number = under;
              size = is.size;
              lasts = is.lasts;
              not_early = is.ready;
              in_time = omega (arith, is.lasts, is.in_time);
              fits = is.fits;
              possible = is.possible;
              best = is.best;
            }

  -- ALL OF IT, OF THE BOARD'S OWN BOOK

  -- two boards with the same claims at each minute, each as often, have the same slot list
  pub same_slots : (other : Holding L) → Kept k k.nothing other → c ≡ other.book.capacity → ((m : ℕ) → Reordered (standing bs m) (standing (bookings other.book.rows) m)) → board.slots ≡ other.slots
  same_slots other kept-too same r =
      let ds = bookings other.book.rows in
      let too = right k lawful k.nothing other kept-too in
      unique k.nothing 0 board.slots other.slots (right k lawful k.nothing board kept).0 too.0
      (λ m. says m ∙ (order_is_free k c lawful_here k.nothing (standing bs m) (standing ds m) (r m) (kept.sound m)).1 ∙ ap (λ v. load_at k v ds m) same ∙ sym (too.1 m))

  one_list : (other : Line L) → c ≡ (ledger_of k other).capacity → ((m : ℕ) → Reordered (standing bs m) (standing (bookings (ledger_of k other).rows) m)) → board.slots ≡ (board_of k other).slots
  one_list other =
      let P : Book L → Type 0 = λ book. c ≡ book.capacity → ((m : ℕ) → Reordered (standing bs m) (standing (bookings book.rows) m)) → board.slots ≡ (board_of k other).slots in
      subst P (book_is k other) (same_slots (board_of k other) (all_kept k lawful other))

  pub promised : PromiseBeside k board board.book
  promised = record {
    book_is_ledger = refl;
    numbers_ascend = kept.numbers;
    numbers_fit = kept.next_fits;
    rows_suffice = kept.rows_fit;
    moves_by_table = λ event r i. ap (move_answer event) (numbered_is 1 board.book.next board.book.rows kept.numbers r i) ∙ table_told event (fate event r.state);
    no_such_booking = λ event n none. ap (move_answer event) (numbered_none n board.book.rows none) ∙ ap refused (refusals event).0;
    checks_first = λ request policy why e. ap (λ o. hold_answer board o (found_on k board request policy)) e;
    given_or_no_gap = one_of;
    no_gap_is_no_room = exactly;
    given_is_best = best_of;
    none_clash = kept.sound;
    each_fits = λ above below x e. (removal_sound k c lawful_here (above ++ (x ∷ below)) (above ++ below) x (to_front above x below) (subst (Sound k c) e kept.sound)).fits;
    units_add_up = units_conserved k c lawful_here bs kept.sound;
    all_end_in_time = inside k lawful k.nothing board kept;
    slots_are_the_bookings = kept.agree;
    slots_say_the_loads = says;
    same_claims_same_slots = one_list;
    slots_are_few = few k lawful k.nothing board kept;
    others_stay = all_stay board kept.numbers k;
    none_shifts = shifts_none board kept.numbers k;
  }

pub lines_promise : {L : Type 0} → LinesPromise L
lines_promise k lawful line = subst (PromiseBeside k (board_of k line)) (book_is k line) (promised k lawful (board_of k line) (all_kept k lawful line))
