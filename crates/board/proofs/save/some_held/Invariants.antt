use Rattle.std.proofs.Common.{◌≡◌, drop}
use Rattle.board.specs.Files.{some_held}
use Rattle.board.proofs.save.some_held.Given as goal

abbrev pub invariant-loop-row : goal.invariant-loop-row
invariant-loop-row g l = some_held (drop l.row-index l.rows) ≡ some_held l.rows
