use Prim.Native.Nat.{◌<◌}
use native.Mathlib.Omega.{arith}
use mathlib.Core.Path.{◌∙◌}
use lib.ListN.{length-take}
use lib.Seq.{get_or-take}
use Rattle.lists.proofs.All.{all_step}
use Rattle.painting.proofs.runs_owned.Goals as goal

pub loop-x-preserved : goal.loop-x-preserved
loop-x-preserved c =
    let h : c.loop-x.x-index < c.args.f.now.r = omega (arith, length-take c.args.f.now.r c.args.f.now.runs) in
    all_step _ c.loop-x.x-index c.loop-x.ok _ c.loop-x.invariant (c.run_owned-ok.ensures ∙ rw get_or-take)
