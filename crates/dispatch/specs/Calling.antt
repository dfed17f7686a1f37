-- The calls that a sheet makes are a line of calls, and so the board promises at each line of the sheet what it promises at every point of every line of calls. Assumes nothing.
use Rattle.std.specs.Prelude.{◌≡◌, ℕ, List, [], ◌∷◌, ◌++◌}
use Rattle.units.specs.Crews.{crew_kind}
use Rattle.units.specs.declared.crew.Crew.{Crew}
use Rattle.planning.specs.Rules.{earliest_start}
use Rattle.bookings.specs.declared.event.Event.TheVariants as event
use Rattle.board.specs.Calls.{Holding, Call, hold, move, Answer, given, done, refused, answer}
use Rattle.lines.specs.Lines.{Line, make, ◌then◌, board_of}
use Rattle.lines.specs.Promise.{Promise}
use Rattle.sheet.specs.Orders.{Content, entry, remark, bad}
use Rattle.sheet.specs.declared.order.Order.{Order}
use Rattle.sheet.specs.declared.order.Order.TheVariants as order
use Rattle.dispatch.specs.Running.{request_of, settling, after_line, texts, fresh_board}

-- what follows a hold: the booking that it is given is settled
abbrev pub settling_calls : ℕ → Answer Crew → List (Call Crew)
settling_calls welcome (given n x) = move (settling welcome x) n ∷ []
settling_calls welcome done = []
settling_calls welcome (refused why) = []

-- the calls that an order makes on a board
abbrev pub calls_of : Holding Crew → Order → List (Call Crew)
calls_of board (order.Hold ready duration deadline wanted welcome) =
    let call = hold (request_of ready duration deadline wanted) earliest_start in
    call ∷ settling_calls welcome (answer crew_kind board call)
calls_of board (order.Cancel n) = move event.Cancel n ∷ []
calls_of board (order.Begin n) = move event.Begin n ∷ []
calls_of board (order.Finish n) = move event.Finish n ∷ []
calls_of board order.List = []

abbrev pub calls_for : Holding Crew → Content → List (Call Crew)
calls_for board (entry o) = calls_of board o
calls_for board remark = []
calls_for board bad = []

-- the line with these calls behind it
abbrev pub and_then : Line Crew → List (Call Crew) → Line Crew
and_then line [] = line
and_then line (call ∷ calls) = and_then (line then call) calls

-- the line with the calls that these lines of a sheet make
abbrev pub with_lines : Line Crew → List Content → Line Crew
with_lines line [] = line
with_lines line (c ∷ cs) = with_lines (and_then line (calls_for (board_of crew_kind line) c)) cs

-- the calls of a sheet, from the making of its board on
abbrev pub calls_on_sheet : List Content → Line Crew
calls_on_sheet cs = with_lines (make 8 10080 64 128) cs

-- the board after these lines of a sheet
abbrev pub after_lines : Holding Crew → List Content → Holding Crew
after_lines board [] = board
after_lines board (c ∷ cs) = after_lines (after_line board c) cs

-- where the lines above have been run and those below have not: the board is the one at the end of the calls so far, what is printed from here on is by that board, and it keeps its promise
pub record AtLine (above below : List Content) : Type 0 where
  pub board_is : after_lines fresh_board above ≡ board_of crew_kind (calls_on_sheet above)
  pub text_goes_on : texts fresh_board (above ++ below) ≡ texts fresh_board above ++ texts (board_of crew_kind (calls_on_sheet above)) below
  pub promised : Promise crew_kind (calls_on_sheet above)

-- so it is wherever the sheet is cut
abbrev pub CallsAreALine : List Content → Type 0
CallsAreALine cs = (above below : List Content) → cs ≡ above ++ below → AtLine above below
