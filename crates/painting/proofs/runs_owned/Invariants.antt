use Rattle.std.proofs.Common.{◌≡◌}
use Rattle.lists.specs.Below.{all_below}
use Rattle.painting.specs.Painting.{owned_run}
use Rattle.painting.proofs.runs_owned.Given as goal

abbrev pub invariant-loop-x : goal.invariant-loop-x
invariant-loop-x l = l.ok ≡ all_below l.x-index (owned_run l.o l.f.runs l.v)
