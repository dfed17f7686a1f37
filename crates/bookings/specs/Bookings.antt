-- Bookings, the load that they make at each minute, and their slot list. Assumes nothing.
use Rattle.std.specs.Prelude.{◌≡◌, ℕ, suc, ◌+◌, ◌≤◌, Bool, false, cond, List, [], ◌∷◌}
use Rattle.std.proofs.Math.Bool.{So}
use Rattle.slots.specs.Stepped.{within, changes}
use Rattle.slots.specs.declared.slot.Slot.{Slot}
use Rattle.units.specs.Kinds.{Kind}
use Rattle.bookings.specs.declared.booking.Booking.{Booking}

abbrev pub stands : {L : Type 0} → Booking L → ℕ → Bool
stands b m = within b.start b.end m

-- the claims of the bookings that stand at minute m, in order
abbrev pub standing : {L : Type 0} → List (Booking L) → ℕ → List L
standing [] m = []
standing (b ∷ bs) m = cond (stands b m) (b.claim ∷ standing bs m) (standing bs m)

-- the load with these claims put on, one after the other
abbrev pub put_all : {L : Type 0} → Kind L → ℕ → L → List L → L
put_all k c l [] = l
put_all k c l (p ∷ ps) = put_all k c (k.put c p l) ps

-- the load at minute m: nothing, with the claims of all bookings standing there put on
abbrev pub load_at : {L : Type 0} → Kind L → ℕ → List (Booking L) → ℕ → L
load_at k c bs m = put_all k c k.nothing (standing bs m)

-- the slot list of bookings that end by the horizon h: a record at each minute, h too, at which the load differs from the one before
abbrev pub slot_list : {L : Type 0} → Kind L → ℕ → ℕ → List (Booking L) → List (Slot L)
slot_list k c h bs = changes k.same (load_at k c bs) k.nothing 0 (suc h)

-- each claim is clear of the load when its turn comes
abbrev pub AllClear : {L : Type 0} → Kind L → ℕ → L → List L → Type 0
AllClear k c l [] = Unit {0}
AllClear k c l (p ∷ ps) = So (k.clear c p l) × AllClear k c (k.put c p l) ps

-- no unit is promised twice: at each minute each claim is clear when its turn comes
abbrev pub Sound : {L : Type 0} → Kind L → ℕ → List (Booking L) → Type 0
Sound k c bs = (m : ℕ) → AllClear k c k.nothing (standing bs m)

-- all end by the horizon h
abbrev pub Within : {L : Type 0} → ℕ → List (Booking L) → Type 0
Within h [] = Unit {0}
Within h (b ∷ bs) = (b.end ≤ h) × Within h bs

-- the booking's claim is clear of what stands at each of its minutes
abbrev pub FitsBeside : {L : Type 0} → Kind L → ℕ → List (Booking L) → Booking L → Type 0
FitsBeside k c bs b = (m : ℕ) → So (stands b m) → So (k.clear c b.claim (load_at k c bs m))

-- the units that these claims take together
abbrev pub taken : {L : Type 0} → Kind L → List L → ℕ
taken k [] = 0
taken k (p ∷ ps) = k.size p + taken k ps

-- what is left when b is taken from bs
pub record Removed {L : Type 0} (k : Kind L) (c : ℕ) (bs others : List (Booking L)) (b : Booking L) : Type 0 where
  pub sound : Sound k c others
  pub fits : FitsBeside k c others b
  pub lifted : (m : ℕ) → So (stands b m) → load_at k c others m ≡ k.lift b.claim (load_at k c bs m)
  pub elsewhere : (m : ℕ) → stands b m ≡ false → load_at k c others m ≡ load_at k c bs m

-- what there is when b has come to bs
pub record Added {L : Type 0} (k : Kind L) (c : ℕ) (bs all : List (Booking L)) (b : Booking L) : Type 0 where
  pub sound : Sound k c all
  pub laid : (m : ℕ) → So (stands b m) → load_at k c all m ≡ k.put c b.claim (load_at k c bs m)
  pub elsewhere : (m : ℕ) → stands b m ≡ false → load_at k c all m ≡ load_at k c bs m
