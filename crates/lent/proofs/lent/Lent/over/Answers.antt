use Rattle.std.proofs.Common.{◌≤◌, length, arith}
use Rattle.lent.proofs.Blanks.{laid_behind, behind_is}
use Rattle.lent.proofs.lent.Lent.over.Goals as goal

pub invariant_of-result : goal.invariant_of-result
invariant_of-result g c =
    let memory = c.args.memory.now in
    let used = c.min-used.result in
    let room = c.min-room.result in
    let within : used ≤ room = omega (arith, c.min-used.ensures) in
    let fits : room ≤ length memory = omega (arith, c.min-room.ensures) in
    record { laid_out = behind_is c.args.blank used room memory c.fill.new.xs within fits c.fill.ensures }
