use mathlib.Core.Path.{sym, ap, ◌∙◌}
use native.Mathlib.Omega.{arith}
use Rattle.lists.proofs.Parts.{part_lent}
use Rattle.memory.specs.Source.{chosen_of}
use Rattle.memory.proofs.chosen.Goals as goal

pub returns-in-Memory : goal.returns-in-Memory
returns-in-Memory c =
    let s = c.args in
    part_lent s.memory.now s.at _ s.n (omega arith)
    ∙ sym (ap (λ f. chosen_of s.payload.now s.memory.now f s.at s.n) c.in-Memory.is)
