use Rattle.std.proofs.Common.{◌≡◌, rules, ◌∙◌, arith}
use Rattle.std.specs.Simd.{first_chunks}
use Rattle.boardfile.specs.Files.{header_in}
use Rattle.boardfile.proofs.Numbers.{four_at}
use Rattle.boardfile.proofs.ReadBack.{same_header}
use Rattle.boardfile.proofs.header.HeaderFromRefArrayU824.from.Goals as goal

-- The check finds this alone, but takes minutes to refuse a body that reads another number.
pub returns : goal.returns
returns c =
    let bs = c.args.value.now in
    let ps = c.as_chunks.result.0.now in
    let e : ps ≡ first_chunks 4 6 bs = search rules in
    same_header _ _ _ _ _ _ (header_in bs)
    (c.from_le_bytes.ensures ∙ four_at 6 0 bs ps e (omega arith))
    (c.from_le_bytes-2.ensures ∙ four_at 6 1 bs ps e (omega arith))
    (c.from_le_bytes-3.ensures ∙ four_at 6 2 bs ps e (omega arith))
    (c.from_le_bytes-4.ensures ∙ four_at 6 3 bs ps e (omega arith))
    (c.from_le_bytes-5.ensures ∙ four_at 6 4 bs ps e (omega arith))
    (c.from_le_bytes-6.ensures ∙ four_at 6 5 bs ps e (omega arith))
