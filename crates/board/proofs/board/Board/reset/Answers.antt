use Rattle.board.proofs.Booked.{emptied_now}
use Rattle.board.proofs.board.Board.reset.Goals as goal

pub invariant_of-self : goal.invariant_of-self
invariant_of-self g c =
    let now = emptied_now g.met.L.Units.keeps c.args.self.now c.args.capacity c.args.horizon c.args.next c.requires c.clear.new.self c.clear-2.new.self c.clear.ensures c.clear-2.ensures.list in
    record { rows_blank = now.rows_blank; slots_room = now.slots_room; keeping = now.keeping }

pub returns : goal.returns
returns g c =
    let now = emptied_now g.met.L.Units.keeps c.args.self.now c.args.capacity c.args.horizon c.args.next c.requires c.clear.new.self c.clear-2.new.self c.clear.ensures c.clear-2.ensures.list in
    record {
      board = now.holding_is;
      memory = record { behind_is = now.behind_is; rows_lent = now.rows_lent; slots_lent = now.slots_lent };
    }
