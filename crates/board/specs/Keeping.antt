-- What a board always keeps, over what it holds. Assumes nothing.
use Rattle.std.specs.Prelude.{◌≡◌, ℕ, suc, ◌<◌, ◌≤◌, List, [], ◌∷◌, length, refl}
use Rattle.std.specs.Coded.{Coded, Coded-set, coded×, coded_ℕ, coded_list, code_by, ×_prop, →_prop, Π_prop, Unit-prop, le_prop}
use Rattle.std.proofs.Props.{props}
use Rattle.slots.specs.Stepped.{slot_of}
use Rattle.slots.specs.declared.slot.Slot.{Slot}
use Rattle.units.specs.Kinds.{Kind}
use Rattle.bookings.specs.Bookings.{AllClear, Sound, standing, slot_list}
use Rattle.bookings.specs.Rows.{bookings, Numbered}
use Rattle.bookings.specs.declared.row.Row.{Row}
use Rattle.bookings.specs.declared.row.State.TheVariants.{Blank}
use Rattle.board.specs.Calls.{Holding}

-- a row's booking has a minute, ends by the horizon, and takes a unit at least; the row is not blank
pub record Proper {L : Type 0} (k : Kind L) (horizon : ℕ) (row : Row L) : Type 0 where
  pub has_minutes : row.booking.start < row.booking.end
  pub ends_in_time : row.booking.end ≤ horizon
  pub takes_some : 1 ≤ k.size row.booking.claim
  pub not_blank : row.state ≡ Blank → ⊥

abbrev pub AllProper : {L : Type 0} → Kind L → ℕ → List (Row L) → Type 0
AllProper k horizon [] = Unit {0}
AllProper k horizon (r ∷ rows) = Proper k horizon r × AllProper k horizon rows

-- the numbers lie in their ranges; the rows are proper, sound, no more than there is room for, and in the order of their numbers; and the slot list is theirs
pub record Keeping {L : Type 0} (k : Kind L) (capacity horizon next room : ℕ) (floor : L) (rows : List (Row L)) (slots : List (Slot L)) : Type 0 where
  pub floor_is : floor ≡ k.nothing
  pub capacity_fits : capacity ≤ k.most
  pub horizon_fits : horizon ≤ 1048576
  pub horizon_open : 1 ≤ capacity → 1 ≤ horizon
  pub next_fits : next ≤ 100000
  pub room_fits : room ≤ 256
  pub rows_fit : length rows ≤ room
  pub numbers : Numbered 1 next rows
  pub proper : AllProper k horizon rows
  pub sound : Sound k capacity (bookings rows)
  pub agree : slots ≡ slot_list k capacity horizon (bookings rows)

numbered_prop : {L : Type 0} (low next : ℕ) (rows : List (Row L)) → IsProp (Numbered low next rows)
numbered_prop low next [] = le_prop
numbered_prop low next (r ∷ rows) = ×_prop le_prop (numbered_prop (suc r.number) next rows)

all_proper_prop : {L : Type 0} (k : Kind L) (horizon : ℕ) (rows : List (Row L)) → IsProp (AllProper k horizon rows)
all_proper_prop k horizon [] = Unit-prop
all_proper_prop k horizon (r ∷ rows) = ×_prop (Prim.hlevel props) (all_proper_prop k horizon rows)

all_clear_prop : {L : Type 0} (k : Kind L) (c : ℕ) (l : L) (ps : List L) → IsProp (AllClear k c l ps)
all_clear_prop k c l [] = Unit-prop
all_clear_prop k c l (p ∷ ps) = ×_prop (Prim.hlevel props) (all_clear_prop k c (k.put c p l) ps)

slots_code : {L : Type 0} → Coded L → Coded (List (Slot L))
slots_code {L} coded = coded_list (code_by (ℕ × L) (coded× coded_ℕ coded) (λ s. (s.minute, s.value)) (λ p. slot_of p.0 p.1) (λ _. refl))

-- there is one way at most for a board to keep all that, where values can be told apart
pub keeping_prop : {L : Type 0} → Coded L → (k : Kind L) (capacity horizon next room : ℕ) (floor : L) (rows : List (Row L)) (slots : List (Slot L)) → IsProp (Keeping k capacity horizon next room floor rows slots)
keeping_prop coded k capacity horizon next room floor rows slots x y i = record {
  floor_is = Coded-set coded _ _ x.floor_is y.floor_is i;
  capacity_fits = le_prop x.capacity_fits y.capacity_fits i;
  horizon_fits = le_prop x.horizon_fits y.horizon_fits i;
  horizon_open = →_prop le_prop x.horizon_open y.horizon_open i;
  next_fits = le_prop x.next_fits y.next_fits i;
  room_fits = le_prop x.room_fits y.room_fits i;
  rows_fit = le_prop x.rows_fit y.rows_fit i;
  numbers = numbered_prop 1 next rows x.numbers y.numbers i;
  proper = all_proper_prop k horizon rows x.proper y.proper i;
  sound = Π_prop (λ m. all_clear_prop k capacity k.nothing (standing (bookings rows) m)) x.sound y.sound i;
  agree = Coded-set (slots_code coded) _ _ x.agree y.agree i;
}

-- the same of what a board holds
abbrev pub Kept : {L : Type 0} → Kind L → L → Holding L → Type 0
Kept k floor board = Keeping k board.book.capacity board.book.horizon board.book.next board.book.room floor board.book.rows board.slots
