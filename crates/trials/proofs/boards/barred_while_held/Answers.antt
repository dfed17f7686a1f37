use Rattle.std.proofs.Common.{is_ok, refl, ap, ◌∙◌}
use Rattle.bookings.specs.declared.event.Event.TheVariants.{Cancel, Begin, Finish}
use Rattle.board.specs.Calls.{move, after}
use Rattle.board.specs.Results.{token_result}
use Rattle.board.specs.Views.{holding}
use Rattle.trials.proofs.Tokens.{still_takes}
use Rattle.trials.proofs.boards.barred_while_held.Goals as goal

pub unwrap-requires : goal.unwrap-requires
unwrap-requires g c =
    let k = g.L.Units.kind in
    let held = holding c.hold.new.self in
    let cancelled = holding c.cancel.new.self in
    let begun = holding c.begin.new.self in
    let finished = holding c.finish.new.self in
    let token = c.in_ok-grant.grant.token in
    let n = token.number in
    let by-number = c.number-number.ensures in
    let after-cancel = still_takes k held n Cancel refl cancelled c.in_ok-grant.ensures.takes.0 (c.cancel.ensures.board ∙ ap (λ m. after k held (move Cancel m)) by-number) in
    let after-begin = still_takes k cancelled n Begin refl begun after-cancel (c.begin.ensures.board ∙ ap (λ m. after k cancelled (move Begin m)) by-number) in
    let after-finish = still_takes k begun n Finish refl finished after-begin (c.finish.ensures.board ∙ ap (λ m. after k begun (move Finish m)) by-number) in
    ap is_ok (c.confirm.ensures.answer ∙ ap (token_result token) after-finish)
