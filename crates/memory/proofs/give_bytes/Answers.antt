use native.Mathlib.Omega.{arith}
use mathlib.Core.Path.{ap, ◌∙◌}
use lib.Seq.{sets}
use Rattle.lists.proofs.Parts.{part_lent}
use Rattle.memory.proofs.give_bytes.Goals as goal

pub returns : goal.returns
returns c =
    let s = c.args in
    c.put_bytes.ensures ∙ ap (sets s.buffer.now 0) (part_lent s.memory.now s.at _ s.n (omega arith))
