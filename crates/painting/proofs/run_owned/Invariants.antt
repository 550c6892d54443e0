use Rattle.std.proofs.Common.{◌≡◌, eqb}
use Rattle.lists.specs.Below.{all_below}
use Rattle.painting.specs.Painting.{owned_from}
use Rattle.painting.proofs.run_owned.Given as goal

abbrev pub invariant-loop-x : goal.invariant-loop-x
invariant-loop-x l = eqb l.bad 0 ≡ all_below l.x-index (owned_from l.o l.f l.v)
