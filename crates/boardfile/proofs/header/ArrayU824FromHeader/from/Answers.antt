use Rattle.std.proofs.Common.{◌∙◌}
use native.Mathlib.Nat.{div-div-eq-div-mul}
use Rattle.boardfile.proofs.header.ArrayU824FromHeader.from.Goals as goal

pub returns : goal.returns
returns c = c.copy_from_slice.ensures.after ∙ c.as_flattened.ensures.value ∙ simp (c.to_le_bytes.ensures, c.to_le_bytes-2.ensures, c.to_le_bytes-3.ensures, c.to_le_bytes-4.ensures, c.to_le_bytes-5.ensures, c.to_le_bytes-6.ensures, div-div-eq-div-mul)
