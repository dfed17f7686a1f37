use Rattle.std.proofs.Common.{length, ap}
use Rattle.board.proofs.Booked.{added}
use Rattle.board.proofs.board.Board.add.Goals as goal

pub invariant_of-self : goal.invariant_of-self
invariant_of-self g c =
    let now = added g.met.L.Units.keeps c.args.self.now g.L.Value.alike g.met.L.Value.told c.args.next c.args.row c.requires.0 c.requires.1 (length c.items-below.result.now) (ap length c.items-below.ensures) c.insert.result c.insert.new.self c.insert.ensures.answer c.insert.ensures.list c.change.result c.change.new.self c.change.ensures.answer c.change.ensures.list in
    record { rows_blank = now.rows_blank; slots_room = now.slots_room; keeping = now.keeping }

pub returns : goal.returns
returns g c =
    let now = added g.met.L.Units.keeps c.args.self.now g.L.Value.alike g.met.L.Value.told c.args.next c.args.row c.requires.0 c.requires.1 (length c.items-below.result.now) (ap length c.items-below.ensures) c.insert.result c.insert.new.self c.insert.ensures.answer c.insert.ensures.list c.change.result c.change.new.self c.change.ensures.answer c.change.ensures.list in
    record {
      board = now.holding_is;
      memory = record { behind_is = now.behind_is; rows_lent = now.rows_lent; slots_lent = now.slots_lent };
    }
