use Rattle.std.proofs.Common.{ap, ◌∙◌}
use Rattle.std.specs.Option.{unwrap_or}
use Rattle.office.specs.Office.{no_answer}
use Rattle.office.specs.Telling.{free_of}
use Rattle.office.proofs.ByKind.{free_own}
use Rattle.office.proofs.board_file_free.Goals as goal

pub returns : goal.returns
returns c =
    c.unwrap_or-2.ensures ∙ ap (λ o. unwrap_or o no_answer) c.unwrap_or.ensures ∙ ap free_of c.asked.ensures ∙ free_own c.args.bytes.now c.args.minute
