-- The state table: what an event makes of a booking in each state. Assumes nothing.
use Rattle.bookings.specs.declared.event.Event.{Event}
use Rattle.bookings.specs.declared.event.Event.TheVariants.{Confirm, Release, Cancel, Begin, Finish}
use Rattle.bookings.specs.declared.row.State.{State}
use Rattle.bookings.specs.declared.row.State.TheVariants.{Blank, Confirmed, UnderWay, Held}

pub data Fate : Type 0 where
  -- the booking is then in that state
  becomes : State → Fate
  -- its row is removed
  leaves : Fate
  -- it may not be done
  barred : Fate

abbrev pub fate : Event → State → Fate
fate Confirm Held = becomes Confirmed
fate Confirm Confirmed = barred
fate Confirm UnderWay = barred
fate Confirm Blank = barred
fate Release Held = leaves
fate Release Confirmed = barred
fate Release UnderWay = barred
fate Release Blank = barred
fate Cancel Held = barred
fate Cancel Confirmed = leaves
fate Cancel UnderWay = barred
fate Cancel Blank = barred
fate Begin Held = barred
fate Begin Confirmed = becomes UnderWay
fate Begin UnderWay = barred
fate Begin Blank = barred
fate Finish Held = barred
fate Finish Confirmed = barred
fate Finish UnderWay = leaves
fate Finish Blank = barred
