use Rattle.std.proofs.Common.{◌≡◌, eqb}
use Rattle.lists.specs.Below.{all_below}
use Rattle.painting.specs.Painting.{alike}
use Rattle.painting.proofs.same.Given as goal

abbrev pub invariant-loop-p : goal.invariant-loop-p
invariant-loop-p l = eqb l.bad 0 ≡ all_below l.p (alike l.a l.b)
