-- The steps of the reader, and that no line is lost on its way. Assumes nothing.
use Rattle.std.specs.Prelude.{◌≡◌, ℕ, ◌<◌, true, ◌⊎◌, List, [], ◌∷◌, ◌++◌, map, length, take, drop, Some, None, Option}
use Rattle.std.specs.Iterator.Runs.{EveryRun}
use Rattle.std.specs.List.{AllByRecursion}
use Rattle.sheet.specs.declared.item.Item.{Item}
use Rattle.sheet.specs.declared.reader.SheetReader.{SheetReader}
use Rattle.sheet.specs.Lines.{Part, part, lines, parts, ended, line_at, place_after}
use Rattle.sheet.specs.Orders.{content}
use Rattle.sheet.specs.Items.{part_of, content_of}

-- the item is that of the line at the place `from`, and the next line begins at `to`
pub record Read (sheet : List ℕ) (from : ℕ) (item : Item) (to : ℕ) : Type 0 where
  pub more : from < length sheet
  pub own : part_of item ≡ part from (line_at sheet from)
  pub says : content_of item ≡ content (line_at sheet from)
  pub onward : to ≡ place_after sheet from

-- an item comes while the sheet has bytes left
abbrev pub Yields : List ℕ → ℕ → Option Item → ℕ → Type 0
Yields sheet from None to = (from ≡ length sheet) × (to ≡ from)
Yields sheet from (Some i) to = Read sheet from i to

-- one call of the reader: the sheet stays, and the place goes on
abbrev pub Steps : SheetReader → Option Item → SheetReader → Type 0
Steps s r t = (t.sheet.now ≡ s.sheet.now) × Yields s.sheet.now s.at r t.at

-- the bytes are those that the sheet has at the part's place
abbrev pub Own : List ℕ → Part → Type 0
Own sheet p = p.bytes ≡ take (length p.bytes) (drop p.at sheet)

-- the items are the lines of the sheet in order, none left out and none twice, and each holds its own part of the sheet
pub record Whole (sheet : List ℕ) (items : List Item) : Type 0 where
  pub in_order : map part_of items ≡ parts sheet
  pub read : map content_of items ≡ map content (lines sheet)
  pub own : AllByRecursion (λ i. Own sheet (part_of i)) items
  pub nothing_lost : (ended (map (λ i. (part_of i).bytes) items) ≡ sheet) ⊎ (ended (map (λ i. (part_of i).bytes) items) ≡ sheet ++ (10 ∷ []))

-- a run from the start of a sheet to its end yields the whole sheet
abbrev pub NoLineLost : Type 0
NoLineLost = EveryRun Steps (λ p. p.from.at ≡ 0 → p.whole ≡ true → Whole p.from.sheet.now p.items)
