use mathlib.Core.Path.{refl}
use native.Mathlib.Omega.{arith}
use Rattle.lists.proofs.Parts.{sets_back}
use Rattle.memory.proofs.put_bytes.Goals as goal

pub returns : goal.returns
returns c =
    let s = c.args in
    sets_back s.memory.now s.at _ _ _ _ (omega arith) c.copy_from_slice.ensures.after refl (omega arith)
