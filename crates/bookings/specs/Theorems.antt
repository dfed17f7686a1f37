-- What is shown of bookings and their slot list, each over the loads L of a kind with c units. Assumes nothing.
use Rattle.std.specs.Prelude.{◌≡◌, ℕ, ◌+◌, ◌*◌, ◌≤◌, List, ◌∷◌, length, Some, None}
use Rattle.std.proofs.Math.Bool.{So}
use Rattle.slots.specs.Lists.{Reordered}
use Rattle.slots.specs.Stepped.{at, Canonical, edited}
use Rattle.slots.specs.declared.slot.Slot.{Slot}
use Rattle.units.specs.Kinds.{Kind, Laws}
use Rattle.planning.specs.Requests.{in_window}
use Rattle.planning.specs.Search.{CanStart}
use Rattle.planning.specs.Policies.{Preference, granted}
use Rattle.planning.specs.declared.request.Request.{Request}
use Rattle.planning.specs.declared.rectangle.Rectangle.{Rectangle}
use Rattle.bookings.specs.Bookings.{standing, put_all, AllClear, load_at, Sound, Within, slot_list, taken, FitsBeside, Removed, Added}
use Rattle.bookings.specs.Grants.{Granted}
use Rattle.bookings.specs.declared.booking.Booking.{Booking}

-- Claims that can be put on in one order can be put on in any, to the same load.
abbrev pub OrderIsFree : Type 0 → Type 0
OrderIsFree L = (k : Kind L) (c : ℕ) → Laws k c → (l : L) (ps qs : List L) → Reordered ps qs → AllClear k c l ps → AllClear k c l qs × (put_all k c l ps ≡ put_all k c l qs)

-- Boards on which the same claims stand at each minute have one slot list.
abbrev pub SlotsOfClaims : Type 0 → Type 0
SlotsOfClaims L = (k : Kind L) (c : ℕ) → Laws k c → (h : ℕ) (bs ds : List (Booking L)) → Sound k c bs → ((m : ℕ) → Reordered (standing bs m) (standing ds m)) → slot_list k c h bs ≡ slot_list k c h ds

-- To write the bookings in another order changes neither that they are sound nor their slots.
abbrev pub RowsInAnyOrder : Type 0 → Type 0
RowsInAnyOrder L = (k : Kind L) (c : ℕ) → Laws k c → (h : ℕ) (bs ds : List (Booking L)) → Reordered bs ds → Sound k c bs → Sound k c ds × (slot_list k c h bs ≡ slot_list k c h ds)

-- At each minute the units that are taken and those that are free are all there are.
abbrev pub UnitsConserved : Type 0 → Type 0
UnitsConserved L = (k : Kind L) (c : ℕ) → Laws k c → (bs : List (Booking L)) → Sound k c bs → (m : ℕ) → taken k (standing bs m) + k.free c (load_at k c bs m) ≡ c

-- The slot list is canonical and says the load at each minute, and no other list does.
abbrev pub SlotsRight : Type 0 → Type 0
SlotsRight L = (k : Kind L) (c : ℕ) → Laws k c → (h : ℕ) (bs : List (Booking L)) → Within h bs → Canonical 0 k.nothing (slot_list k c h bs) × ((m : ℕ) → at k.nothing (slot_list k c h bs) m ≡ load_at k c bs m)

abbrev pub SlotsOnly : Type 0 → Type 0
SlotsOnly L = (k : Kind L) (c : ℕ) → Laws k c → (h : ℕ) (bs : List (Booking L)) (xs : List (Slot L)) → Within h bs → Canonical 0 k.nothing xs → ((m : ℕ) → at k.nothing xs m ≡ load_at k c bs m) → xs ≡ slot_list k c h bs

-- Each booking fits beside the others, and to remove it leaves a sound board, whose load is that with the claim lifted.
abbrev pub RemovalSound : Type 0 → Type 0
RemovalSound L = (k : Kind L) (c : ℕ) → Laws k c → (bs others : List (Booking L)) (b : Booking L) → Reordered bs (b ∷ others) → Sound k c bs → Removed k c bs others b

-- A booking that fits beside those on the board can be added, at any row, and its claim is put on the loads of its minutes.
abbrev pub AdditionSound : Type 0 → Type 0
AdditionSound L = (k : Kind L) (c : ℕ) → Laws k c → (bs all : List (Booking L)) (b : Booking L) → Reordered all (b ∷ bs) → Sound k c bs → FitsBeside k c bs b → Added k c bs all b

-- A slot list has at most two records for each booking.
abbrev pub SlotsFew : Type 0 → Type 0
SlotsFew L = (k : Kind L) (c : ℕ) → Laws k c → (bs : List (Booking L)) (xs : List (Slot L)) → Canonical 0 k.nothing xs → ((m : ℕ) → at k.nothing xs m ≡ load_at k c bs m) → length xs ≤ 2 * length bs

-- What is granted keeps the board sound; what is refused could start nowhere in its window.
abbrev pub GrantRight : Type 0 → Type 0
GrantRight L = (k : Kind L) (c : ℕ) → Laws k c → (policy : Preference) (h : ℕ) (bs : List (Booking L)) (steps : List (Slot L)) (request : Request) → Sound k c bs → ((m : ℕ) → at k.nothing steps m ≡ load_at k c bs m) → 1 ≤ request.wanted → 1 ≤ request.duration → ((r : Rectangle) → granted k c policy h (load_at k c bs) request steps ≡ Some r → Granted k c bs request r.start) × (granted k c policy h (load_at k c bs) request steps ≡ None → (s : ℕ) → So (in_window request s) → CanStart k c (load_at k c bs) request s → ⊥)

-- The slot list with a booking's claim put on over its minutes is the one of the bookings with that booking, wherever it stands among them.
abbrev pub SlotsAfterAdding : Type 0 → Type 0
SlotsAfterAdding L = (k : Kind L) (c : ℕ) → Laws k c → (h : ℕ) (bs all : List (Booking L)) (b : Booking L) → Reordered all (b ∷ bs) → Within h bs → Within h all → Sound k c bs → FitsBeside k c bs b → edited k.same (k.put c b.claim) b.start b.end k.nothing (slot_list k c h bs) ≡ slot_list k c h all

-- The slot list with a booking's claim lifted over its minutes is the one of the other bookings.
abbrev pub SlotsAfterRemoving : Type 0 → Type 0
SlotsAfterRemoving L = (k : Kind L) (c : ℕ) → Laws k c → (h : ℕ) (bs others : List (Booking L)) (b : Booking L) → Reordered bs (b ∷ others) → Within h bs → Within h others → Sound k c bs → edited k.same (k.lift b.claim) b.start b.end k.nothing (slot_list k c h bs) ≡ slot_list k c h others
