use Rattle.std.proofs.Common.{refl, ◌∙◌, arith}
use Rattle.board.proofs.FileWritten.{none_written, one_written, all_written}
use Rattle.board.proofs.save.write_rows.Goals as goal

pub loop-i-init : goal.loop-i-init
loop-i-init g c = none_written g.L.Filed.filing c.args.rows.now c.args.out.now

pub loop-i-preserved : goal.loop-i-preserved
loop-i-preserved g c =
    one_written g.L.Filed.filing c.args.rows.now c.args.out.now c.requires c.loop-i.i c.index-rows-i.result c.loop-i-test.true c.index-rows-i.is _ (c.copy_from_slice.ensures.after ∙ c.row_bytes.ensures) _ _ refl (omega arith) c.loop-i.out c.loop-i.invariant

pub returns : goal.returns
returns g c = all_written g.L.Filed.filing c.args.rows.now c.args.out.now c.requires c.loop-i.i c.loop-i.auto.i-end c.loop-i-test.false c.loop-i.out c.loop-i.invariant
