-- The items of a sheet: each is a line with what it is. Assumes nothing.
use Rattle.sheet.specs.declared.line.Line.{Line}
use Rattle.sheet.specs.declared.item.Item.{Item}
use Rattle.sheet.specs.declared.item.Item.TheVariants.{Entry, Remark, Bad}
use Rattle.sheet.specs.Lines.{Part, part}
use Rattle.sheet.specs.Orders.{Content, entry, remark, bad}

abbrev pub line_of : Item → Line
line_of (Entry l o) = l
line_of (Remark l) = l
line_of (Bad l) = l

abbrev pub content_of : Item → Content
content_of (Entry l o) = entry o
content_of (Remark l) = remark
content_of (Bad l) = bad

-- the part of the sheet that an item holds
abbrev pub part_of : Item → Part
part_of i = part (line_of i).at (line_of i).bytes.now
