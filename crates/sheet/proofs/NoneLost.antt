-- No line is lost on the reader's way. Assumes nothing.
use Rattle.std.proofs.Common.{◌≡◌, ℕ, ◌+◌, List, [], ◌∷◌, map, length, take, drop, Some, None, sym, refl, ap, ◌∙◌, subst, arith}
use mathlib.Core.List.{map-map}
use Rattle.std.specs.Iterator.{Yields}
use Rattle.std.specs.List.{AllByRecursion}
use Rattle.std.proofs.lemmas.List.{at_drop_all}
use Rattle.std.proofs.iter.runs.Made.{took}
use Rattle.std.proofs.iter.runs.Sources.{from_front}
use Rattle.sheet.specs.declared.item.Item.{Item}
use Rattle.sheet.specs.declared.reader.SheetReader.{SheetReader}
use Rattle.sheet.specs.Lines.{Part, part, lines, placed, parts, line_at, place_after}
use Rattle.sheet.specs.Orders.{Content, content}
use Rattle.sheet.specs.Items.{part_of, content_of}
use Rattle.sheet.specs.Reading.{Read, Steps, Own, NoLineLost}
use Rattle.sheet.proofs.LinesInOrder.{lines_from, parts_from, lines_step, parts_step, length_line_at, ended_lines}

-- what is left at the reader's place
abbrev parts_left : SheetReader → List Part
parts_left s = parts_from s.sheet.now s.at

abbrev contents_left : SheetReader → List Content
contents_left s = map content (lines_from s.sheet.now s.at)

parts_stop : (s t : SheetReader) → Steps s None t → length (parts_left s) ≡ 0
parts_stop s t h = at_drop_all (λ bs. length (placed s.at (lines bs))) s.sheet.now s.at (omega (arith, h.1.0))

contents_stop : (s t : SheetReader) → Steps s None t → length (contents_left s) ≡ 0
contents_stop s t h = at_drop_all (λ bs. length (map content (lines bs))) s.sheet.now s.at (omega (arith, h.1.0))

parts_go : (s : SheetReader) (i : Item) (t : SheetReader) → Steps s (Some i) t → parts_left s ≡ part_of i ∷ parts_left t
parts_go s i t h =
    let r = h.1 in
    parts_step s.sheet.now s.at r.more ∙ ap (λ p. p ∷ parts_from s.sheet.now (place_after s.sheet.now s.at)) (sym r.own)
    ∙ ap (λ k. part_of i ∷ parts_from s.sheet.now k) (sym r.onward) ∙ ap (λ bs. part_of i ∷ parts_from bs t.at) (sym h.0)

contents_go : (s : SheetReader) (i : Item) (t : SheetReader) → Steps s (Some i) t → contents_left s ≡ content_of i ∷ contents_left t
contents_go s i t h =
    let r = h.1 in
    ap (map content) (lines_step s.sheet.now s.at r.more) ∙ ap (λ c. c ∷ map content (lines_from s.sheet.now (place_after s.sheet.now s.at))) (sym r.says)
    ∙ ap (λ k. content_of i ∷ map content (lines_from s.sheet.now k)) (sym r.onward) ∙ ap (λ bs. content_of i ∷ map content (lines_from bs t.at)) (sym h.0)

own_line : (sheet : List ℕ) (place to : ℕ) (i : Item) → Read sheet place i to → Own sheet (part_of i)
own_line sheet place to i r =
    let e : part_of i ≡ part place (line_at sheet place) = r.own in
    subst (Own sheet) (sym e) (ap (λ n. take n (drop place sheet)) (sym (length_line_at sheet place)))

each_own : (sheet : List ℕ) (is : List Item) (s t : SheetReader) → s.sheet.now ≡ sheet → Yields Steps s is t → AllByRecursion (λ i. Own sheet (part_of i)) is
each_own sheet [] s t e y = tt
each_own sheet (i ∷ is) s t e y =
    (subst (λ bs. Own bs (part_of i)) e (own_line _ _ _ i y.1.1), each_own sheet is y.0 t (y.1.0 ∙ e) y.2)

bytes_placed : (place : ℕ) (ls : List (List ℕ)) → map (λ p. p.bytes) (placed place ls) ≡ ls
bytes_placed place [] = refl
bytes_placed place (l ∷ ls) = ap (λ rest. l ∷ rest) (bytes_placed (place + length l + 1) ls)

pub none_lost : NoLineLost
none_lost p seen start whole =
    let sheet = p.from.sheet.now in
    let in_order : map part_of p.items ≡ parts sheet = (from_front Steps part_of parts_left parts_stop parts_go p seen).4 whole ∙ ap (parts_from sheet) start in
    let bytes : map (λ i. (part_of i).bytes) p.items ≡ lines sheet = sym (map-map (λ q. q.bytes) part_of p.items) ∙ ap (map (λ q. q.bytes)) in_order ∙ bytes_placed 0 (lines sheet) in
    record {
      in_order = in_order;
      read = (from_front Steps content_of contents_left contents_stop contents_go p seen).4 whole ∙ ap (λ k. map content (lines_from sheet k)) start;
      own = each_own sheet p.items p.from (took p).0 refl (took p).1;
      nothing_lost = rw bytes (ended_lines sheet);
    }
