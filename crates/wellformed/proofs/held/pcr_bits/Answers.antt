use mathlib.Core.Path.{refl}
use lib.ListN.{get_or}
use Rattle.lists.proofs.All.{bits_none, bits_step}
use Rattle.wellformed.proofs.held.pcr_bits.Goals as goal

pub loop-b-init : goal.loop-b-init
loop-b-init c = bits_none _

pub loop-b-preserved : goal.loop-b-preserved
loop-b-preserved c = bits_step _ c.loop-b.b-index c.loop-b.bits (get_or c.args.x.now.bytes c.loop-b.b-index 0) c.loop-b.invariant refl
