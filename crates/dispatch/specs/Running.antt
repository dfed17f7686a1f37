-- A sheet on a crew board: what each line is answered, the board that it leaves, and all that is printed. Assumes nothing.
use Rattle.std.specs.Prelude.{ℕ, cond, List, [], ◌∷◌, ◌++◌, map, length, nat_le, nat_lt}
use Rattle.units.specs.Crews.{crew_kind}
use Rattle.units.specs.declared.crew.Crew.{Crew}
use Rattle.planning.specs.Rules.{earliest_start}
use Rattle.planning.specs.declared.request.Request.{Request}
use Rattle.bookings.specs.Refusals.{number}
use Rattle.bookings.specs.declared.booking.Booking.{Booking}
use Rattle.bookings.specs.declared.event.Event.{Event}
use Rattle.bookings.specs.declared.event.Event.TheVariants as event
use Rattle.bookings.specs.declared.refusal.Refusal.TheVariants.{BadLine, SheetTooLong}
use Rattle.board.specs.Calls.{Holding, Answer, given, done, refused, hold, move, made, answer, after}
use Rattle.sheet.specs.Answers.{text_of}
use Rattle.sheet.specs.Lines.{lines}
use Rattle.sheet.specs.Orders.{Content, entry, remark, bad, content}
use Rattle.sheet.specs.declared.answer.Answer as reply
use Rattle.sheet.specs.declared.answer.Answer.TheVariants.{Granted, Late, Done, Refused, Listed, Silent}
use Rattle.sheet.specs.declared.order.Order.{Order}
use Rattle.sheet.specs.declared.order.Order.TheVariants as order

abbrev pub request_of : ℕ → ℕ → ℕ → ℕ → Request
request_of ready duration deadline wanted = record { ready = ready; duration = duration; deadline = deadline; wanted = wanted }

-- a booking that starts by the welcome minute is confirmed, any other released
abbrev pub settling : ℕ → Booking Crew → Event
settling welcome x = cond (nat_le x.start welcome) event.Confirm event.Release

abbrev pub hold_reply : ℕ → Answer Crew → reply.Answer
hold_reply welcome (given n x) = cond (nat_le x.start welcome) (Granted n x.start x.claim.mask) (Late n x.start)
hold_reply welcome done = Silent
hold_reply welcome (refused why) = Refused (number why)

abbrev pub hold_leaves : ℕ → Holding Crew → Answer Crew → Holding Crew
hold_leaves welcome board (given n x) = after crew_kind board (move (settling welcome x) n)
hold_leaves welcome board done = board
hold_leaves welcome board (refused why) = board

abbrev pub move_reply : Answer Crew → reply.Answer
move_reply (given n x) = Done
move_reply done = Done
move_reply (refused why) = Refused (number why)

-- what an order is answered
abbrev pub ordered : Holding Crew → Order → reply.Answer
ordered board (order.Hold ready duration deadline wanted welcome) = hold_reply welcome (answer crew_kind board (hold (request_of ready duration deadline wanted) earliest_start))
ordered board (order.Cancel n) = move_reply (answer crew_kind board (move event.Cancel n))
ordered board (order.Begin n) = move_reply (answer crew_kind board (move event.Begin n))
ordered board (order.Finish n) = move_reply (answer crew_kind board (move event.Finish n))
ordered board order.List = Listed

-- and the board that it leaves
abbrev pub after_order : Holding Crew → Order → Holding Crew
after_order board (order.Hold ready duration deadline wanted welcome) =
    let call = hold (request_of ready duration deadline wanted) earliest_start in
    hold_leaves welcome (after crew_kind board call) (answer crew_kind board call)
after_order board (order.Cancel n) = after crew_kind board (move event.Cancel n)
after_order board (order.Begin n) = after crew_kind board (move event.Begin n)
after_order board (order.Finish n) = after crew_kind board (move event.Finish n)
after_order board order.List = board

-- what a line is answered, and the board after it
abbrev pub answered : Holding Crew → Content → reply.Answer
answered board (entry o) = ordered board o
answered board remark = Silent
answered board bad = Refused (number BadLine)

abbrev pub after_line : Holding Crew → Content → Holding Crew
after_line board (entry o) = after_order board o
after_line board remark = board
after_line board bad = board

-- the text of the answers to some lines, one after the other
abbrev pub texts : Holding Crew → List Content → List ℕ
texts board [] = []
texts board (c ∷ cs) = text_of (after_line board c).slots (answered board c) ++ texts (after_line board c) cs

-- 8 mechanics, bookings that end by minute 10,080, and 64 rows
abbrev pub fresh_board : Holding Crew
fresh_board = made crew_kind 8 10080 64 128

-- all that a sheet is answered: one of more than 65,536 bytes is refused whole
abbrev pub sheet_text : List ℕ → List ℕ
sheet_text sheet = cond (nat_lt 65536 (length sheet)) (text_of [] (Refused (number SheetTooLong))) (texts fresh_board (map content (lines sheet)))
