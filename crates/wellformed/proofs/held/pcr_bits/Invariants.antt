use Rattle.std.proofs.Common.{◌≡◌, eqb}
use Rattle.lists.specs.Below.{all_below}
use Rattle.wellformed.specs.WellFormed.{byte_zero_at}
use Rattle.wellformed.proofs.held.pcr_bits.Given as goal

abbrev pub invariant-loop-b : goal.invariant-loop-b
invariant-loop-b l = eqb l.bits 0 ≡ all_below l.b-index (byte_zero_at l.x)
