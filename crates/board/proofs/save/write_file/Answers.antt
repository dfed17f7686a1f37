use Rattle.std.proofs.Common.{◌∙◌}
use Rattle.board.proofs.FileWritten.{file_written}
use Rattle.board.proofs.save.write_file.Goals as goal

pub returns : goal.returns
returns g c = file_written g.L.Filed.filing c.args.header c.args.rows.now c.args.out.now c.copy_from_slice.new.self (c.copy_from_slice.ensures.after ∙ c.from.ensures) _ c.write_rows.ensures
