use Rattle.std.proofs.Common.{ap, ◌∙◌}
use Rattle.office.specs.Telling.{check_of}
use Rattle.office.proofs.ByKind.{check_own}
use Rattle.office.proofs.board_file_check.Goals as goal

pub returns-in-Ok : goal.returns-in-Ok
returns-in-Ok c = ap check_of c.in-Ok.ensures ∙ check_own c.args.bytes.now 0

pub returns-in-Err : goal.returns-in-Err
returns-in-Err c = c.from.ensures ∙ ap check_of c.in-Err.ensures ∙ check_own c.args.bytes.now 0
