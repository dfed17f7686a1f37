-- The calls that a sheet makes lead to the boards that its lines leave. Assumes nothing.
use Rattle.std.proofs.Common.{◌≡◌, ℕ, List, [], ◌∷◌, ◌++◌, sym, refl, ap, ◌∙◌, append_assoc}
use Rattle.units.specs.Crews.{crew_kind}
use Rattle.units.specs.declared.crew.Crew.{Crew}
use Rattle.dispatch.proofs.CrewLawful.{crew_lawful}
use Rattle.planning.specs.Rules.{earliest_start}
use Rattle.board.specs.Calls.{Holding, hold, Answer, given, done, refused, answer}
use Rattle.lines.specs.Lines.{Line, make, ◌then◌, board_of}
use Rattle.lines.proofs.Promised.{lines_promise}
use Rattle.sheet.specs.Answers.{text_of}
use Rattle.sheet.specs.Orders.{Content, entry, remark, bad}
use Rattle.sheet.specs.declared.order.Order.TheVariants as order
use Rattle.dispatch.specs.Running.{request_of, hold_leaves, answered, after_line, texts, fresh_board}
use Rattle.dispatch.specs.Calling.{settling_calls, calls_for, and_then, with_lines, calls_on_sheet, after_lines, CallsAreALine}

abbrev board_at : Line Crew → Holding Crew
board_at line = board_of crew_kind line

-- the hold, and what follows it
settled_there : (line : Line Crew) (welcome : ℕ) (told : Answer Crew) → board_at (and_then line (settling_calls welcome told)) ≡ hold_leaves welcome (board_at line) told
settled_there line welcome (given n x) = refl
settled_there line welcome done = refl
settled_there line welcome (refused why) = refl

-- the calls of one line of the sheet
one_line : (line : Line Crew) (c : Content) → board_at (and_then line (calls_for (board_at line) c)) ≡ after_line (board_at line) c
one_line line (entry (order.Hold ready duration deadline wanted welcome)) =
    let call = hold (request_of ready duration deadline wanted) earliest_start in
    settled_there (line then call) welcome (answer crew_kind (board_at line) call)
one_line line (entry (order.Cancel n)) = refl
one_line line (entry (order.Begin n)) = refl
one_line line (entry (order.Finish n)) = refl
one_line line (entry order.List) = refl
one_line line remark = refl
one_line line bad = refl

all_lines : (line : Line Crew) (cs : List Content) → after_lines (board_at line) cs ≡ board_at (with_lines line cs)
all_lines line [] = refl
all_lines line (c ∷ cs) = ap (λ board. after_lines board cs) (sym (one_line line c)) ∙ all_lines (and_then line (calls_for (board_at line) c)) cs

-- the text, cut between two lines
texts_cut : (board : Holding Crew) (above below : List Content) → texts board (above ++ below) ≡ texts board above ++ texts (after_lines board above) below
texts_cut board [] below = refl
texts_cut board (c ∷ above) below =
    let text = text_of (after_line board c).slots (answered board c) in
    ap (λ rest. text ++ rest) (texts_cut (after_line board c) above below) ∙ sym (append_assoc text (texts (after_line board c) above) (texts (after_lines (after_line board c) above) below))

pub calls_are_a_line : (cs : List Content) → CallsAreALine cs
calls_are_a_line cs above below e =
    let there = all_lines (make 8 10080 64 128) above in
    record {
      board_is = there;
      text_goes_on = texts_cut fresh_board above below ∙ ap (λ board. texts fresh_board above ++ texts board below) there;
      promised = lines_promise crew_kind crew_lawful (calls_on_sheet above);
    }
