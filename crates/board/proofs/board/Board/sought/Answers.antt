use Rattle.board.specs.Views.{holding}
use Rattle.board.proofs.Searched.{search_is, sought_is}
use Rattle.board.proofs.board.Board.sought.Goals as goal

pub returns : goal.returns
returns g c =
    let k = g.L.Units.kind in
    let was = c.args.self.now in
    let policy = g.P.Policy.preference c.args.policy.now in
    sought_is k (holding was) c.args.request policy c.find_claim.result (search_is k g.met.L.Units.keeps was.slots.floor (holding was) was.keeping c.args.request policy c.records.result.now c.records.ensures c.find_claim.result c.find_claim.ensures)
