use Rattle.std.proofs.Common.{ap, ◌∙◌}
use Rattle.slots.specs.Stepped.{at}
use Rattle.board.specs.Views.{holding}
use Rattle.board.proofs.Keeps.{right}
use Rattle.board.proofs.board.Board.agrees_at.Goals as goal

pub returns : goal.returns
returns g c =
    let is = c.args.self.now in
    ap (λ v. at v (holding is).slots c.args.minute) is.keeping.floor_is ∙ (right g.L.Units.kind g.met.L.Units.keeps is.slots.floor (holding is) is.keeping).1 c.args.minute
