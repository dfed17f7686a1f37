use Rattle.std.proofs.Common.{◌∙◌}
use native.Mathlib.Nat.{div-div-eq-div-mul}
use Rattle.boardfile.proofs.write.row_bytes.Goals as goal

pub returns : goal.returns
returns g c =
    let front = c.copy_from_slice.ensures.after ∙ c.as_flattened.ensures.value in
    let back = c.copy_from_slice-2.ensures.after in
    simp (front, back, c.to_le_bytes.ensures, c.to_le_bytes-2.ensures, c.to_le_bytes-3.ensures, c.to_le_bytes-4.ensures, c.to_le_bytes-5.ensures, c.word.ensures, c.from.ensures, div-div-eq-div-mul)
