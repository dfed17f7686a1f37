use Rattle.std.proofs.Common.{sym, ◌∙◌}
use Rattle.office.proofs.ByKind.{told_own}
use Rattle.office.proofs.asked.Goals as goal

pub returns-then-says_stock : goal.returns-then-says_stock
returns-then-says_stock c = c.stock_told.ensures ∙ told_own c.args.bytes.now c.args.minute _ (λ l. sym c.if-says_stock.true ∙ c.says_stock.ensures l)

pub returns-else-says_stock : goal.returns-else-says_stock
returns-else-says_stock c = c.crew_told.ensures ∙ told_own c.args.bytes.now c.args.minute _ (λ l. sym c.if-says_stock.false ∙ c.says_stock.ensures l)
