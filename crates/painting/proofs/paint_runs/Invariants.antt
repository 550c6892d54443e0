use Rattle.std.proofs.Common.{◌≡◌}
use Rattle.painting.specs.Painting.{painted_runs}
use Rattle.painting.proofs.paint_runs.Given as goal

abbrev pub invariant-loop-x : goal.invariant-loop-x
invariant-loop-x l = l.t ≡ painted_runs l.initial.t l.f.runs l.v l.x-index
