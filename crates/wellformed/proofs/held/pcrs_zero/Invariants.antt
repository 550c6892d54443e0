use Rattle.std.proofs.Common.{◌≡◌, eqb}
use Rattle.lists.specs.Below.{all_below}
use Rattle.wellformed.specs.WellFormed.{pcr_zero_at}
use Rattle.wellformed.proofs.held.pcrs_zero.Given as goal

abbrev pub invariant-loop-x : goal.invariant-loop-x
invariant-loop-x l = eqb l.bits 0 ≡ all_below l.x-index (pcr_zero_at l.pcrs)
