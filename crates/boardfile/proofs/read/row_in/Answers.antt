use Rattle.std.proofs.Common.{◌≡◌, rules, ap, ◌∙◌, arith}
use Rattle.std.specs.Simd.{first_chunks}
use Rattle.boardfile.specs.Files.{row_in, state_numbered}
use Rattle.boardfile.proofs.Numbers.{four_at, eight_at}
use Rattle.boardfile.proofs.ReadBack.{same_row}
use Rattle.boardfile.proofs.read.row_in.Goals as goal

pub returns : goal.returns
returns g c =
    let f = g.L.Filed.filing in
    let bs = c.args.bytes.now in
    let ps = c.as_chunks.result.0.now in
    let ws = c.as_chunks-2.result.0.now in
    let e : ps ≡ first_chunks 4 6 bs = search rules in
    let d : ws ≡ first_chunks 8 3 bs = search rules in
    same_row f _ _ _ _ _ (row_in f bs)
    (c.from_le_bytes.ensures ∙ four_at 6 0 bs ps e (omega arith))
    (c.from_le_bytes-2.ensures ∙ four_at 6 1 bs ps e (omega arith))
    (c.from_le_bytes-3.ensures ∙ four_at 6 2 bs ps e (omega arith))
    (c.of_word.ensures ∙ ap f.claim (c.from_le_bytes-4.ensures ∙ eight_at 3 2 bs ws d (omega arith)))
    (c.state_numbered.ensures ∙ ap state_numbered (c.from_le_bytes-5.ensures ∙ four_at 6 3 bs ps e (omega arith)))
