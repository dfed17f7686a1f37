use Rattle.std.proofs.Common.{sym, ◌∙◌}
use Rattle.units.specs.Crews.{crew_kind}
use Rattle.planning.specs.Rules.{earliest_start}
use Rattle.board.specs.Calls.{hold, answer}
use Rattle.board.specs.Views.{holding}
use Rattle.dispatch.proofs.Held.{refused_leaves}
use Rattle.dispatch.proofs.entry.held.Goals as goal

pub returns-in_err-grant-clause-board : goal.returns-in_err-grant-clause-board
returns-in_err-grant-clause-board c =
    c.hold.ensures.board ∙ sym (refused_leaves c.args.welcome _ (answer crew_kind (holding c.args.board.now) (hold c.args.request earliest_start)) _ c.in_err-grant.ensures.answer)
