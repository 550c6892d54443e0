use native.Mathlib.Omega.{arith}
use mathlib.Core.Path.{◌∙◌}
use Rattle.manifest.proofs.Puts.{trailer_written}
use Rattle.manifest.proofs.put_trailer.Goals as goal

pub returns : goal.returns
returns c =
    trailer_written c.args.buffer.now c.args.at c.args.r c.args.e _ _ _ _ _ _ _ _ (omega arith)
    c.copy_from_slice.ensures.after c.copy_from_slice-2.ensures.after (c.copy_from_slice-3.ensures.after ∙ c.to_le_bytes.ensures) (c.copy_from_slice-4.ensures.after ∙ c.to_le_bytes-2.ensures)
    (omega arith) (omega arith) (omega arith) (omega arith)
