use Prim.Native.Nat.{◌+◌, ◌-◌, ◌<◌}
use native.Mathlib.Omega.{arith}
use lib.Seq.{get_or-take, get_or-drop}
use Rattle.lists.proofs.All.{bits_step, xor_zero}
use Rattle.painting.proofs.run_owned.Goals as goal

pub loop-x-preserved : goal.loop-x-preserved
loop-x-preserved c =
    let h : c.loop-x.x-index < c.args.f + c.args.n - c.args.f = omega arith in
    bits_step _ c.loop-x.x-index c.loop-x.bad _ c.loop-x.invariant (rw (get_or-take, get_or-drop) (xor_zero _ _))
