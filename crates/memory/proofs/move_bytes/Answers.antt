use native.Mathlib.Omega.{arith}
use mathlib.Core.Path.{◌∙◌}
use Rattle.std.proofs.Common.{rules}
use Rattle.std.proofs.lemmas.Slice.{overwrites}
use Rattle.lists.specs.Bytes.{part}
use Rattle.lists.proofs.Parts.{sets_back, part_long}
use Rattle.memory.proofs.move_bytes.Goals as goal

pub returns : goal.returns
unfolding part
returns c =
    let s = c.args in
    sets_back s.memory.now s.to s.n _ _ _ (omega arith) (c.copy_from_slice-2.ensures.after ∙ search (rules, overwrites))
    (part_long s.memory.now s.from s.n (omega arith)) (omega arith)
