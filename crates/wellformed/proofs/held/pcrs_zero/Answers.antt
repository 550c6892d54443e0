use native.Mathlib.Omega.{arith}
use Rattle.lists.proofs.All.{all_end, bits_none, bits_step}
use Rattle.wellformed.specs.WellFormed.{pcrs_zero}
use Rattle.wellformed.proofs.held.pcrs_zero.Goals as goal

pub loop-x-init : goal.loop-x-init
loop-x-init c = bits_none _

pub loop-x-preserved : goal.loop-x-preserved
loop-x-preserved c = bits_step _ c.loop-x.x-index c.loop-x.bits c.pcr_bits-bits.result c.loop-x.invariant c.pcr_bits-bits.ensures

pub returns : goal.returns
unfolding pcrs_zero
returns c = all_end _ 8 c.loop-x.x-index _ (omega arith) (omega arith) c.loop-x.invariant
