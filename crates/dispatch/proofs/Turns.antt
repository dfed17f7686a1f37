-- One line more of a sheet: the text so far and the text of the lines that are left make up the whole. Assumes nothing.
use Rattle.std.proofs.Common.{◌≡◌, ℕ, List, [], ◌∷◌, ◌++◌, map, length, sym, ap, ◌∙◌, subst, ap₂, append_assoc, append-nil, arith}
use Rattle.std.proofs.lemmas.List.{drop_all}
use Rattle.slots.specs.declared.slot.Slot.{Slot}
use Rattle.units.specs.declared.crew.Crew.{Crew}
use Rattle.board.specs.Calls.{Holding}
use Rattle.sheet.specs.Answers.{text_of}
use Rattle.sheet.specs.Items.{content_of}
use Rattle.sheet.specs.Lines.{lines}
use Rattle.sheet.specs.Orders.{content}
use Rattle.sheet.specs.Reading.{Read}
use Rattle.sheet.specs.declared.answer.Answer.{Answer}
use Rattle.sheet.specs.declared.item.Item.{Item}
use Rattle.sheet.proofs.LinesInOrder.{lines_from, lines_step}
use Rattle.dispatch.specs.Running.{answered, after_line, texts}

-- the text so far, with that of the lines from a place on, is the whole
abbrev pub MakesUp : List ℕ → ℕ → Holding Crew → List ℕ → List ℕ → Type 0
MakesUp sheet at board out whole = out ++ texts board (map content (lines_from sheet at)) ≡ whole

pub turn : (sheet read-sheet : List ℕ) (at to : ℕ) (item : Item) (board board' : Holding Crew) (out out' whole : List ℕ) (answer : Answer) (slots : List (Slot Crew))
    → read-sheet ≡ sheet → Read read-sheet at item to → MakesUp sheet at board out whole → answer ≡ answered board (content_of item) → board' ≡ after_line board (content_of item) → slots ≡ board'.slots → out' ≡ out ++ text_of slots answer → MakesUp sheet to board' out' whole
turn sheet read-sheet at to item board board' out out' whole answer slots same read inv ea eb es eo =
    let r = subst (λ xs. Read xs at item to) same read in
    let line : map content (lines_from sheet at) ≡ content_of item ∷ map content (lines_from sheet to) =
    ap (map content) (lines_step sheet at r.more) ∙ ap₂ (λ c n. c ∷ map content (lines_from sheet n)) (sym r.says) (sym r.onward) in
    let text : text_of slots answer ≡ text_of (after_line board (content_of item)).slots (answered board (content_of item)) = ap₂ text_of (es ∙ ap (λ b. b.slots) eb) ea in
    ap₂ (λ o b. o ++ texts b (map content (lines_from sheet to))) (eo ∙ ap (λ t. out ++ t) text) eb
    ∙ append_assoc out (text_of (after_line board (content_of item)).slots (answered board (content_of item))) (texts (after_line board (content_of item)) (map content (lines_from sheet to)))
    ∙ sym (ap (λ cs. out ++ texts board cs) line) ∙ inv

pub at_end : (sheet read-sheet : List ℕ) (at : ℕ) (board : Holding Crew) (out whole : List ℕ) → read-sheet ≡ sheet → at ≡ length read-sheet → MakesUp sheet at board out whole → out ≡ whole
at_end sheet read-sheet at board out whole same e inv =
    let none : lines_from sheet at ≡ [] = ap lines (drop_all at sheet (omega (arith, e, ap length same))) in
    sym (append-nil out) ∙ sym (ap (λ ls. out ++ texts board (map content ls)) none) ∙ inv
