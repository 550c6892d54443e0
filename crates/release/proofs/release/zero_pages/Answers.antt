use Prim.Native.Nat.{ℕ, ◌<◌}
use native.Mathlib.Omega.{arith}
use mathlib.Core.Path.{◌≡◌, ap, ◌∙◌}
use lib.ListN.{length-take}
use lib.Seq.{get_or-take}
use Rattle.lists.specs.Below.{joined}
use Rattle.lists.specs.Bytes.{wipe}
use Rattle.lists.proofs.Pages.{wipe_none}
use Rattle.geometry.specs.Geometry.{page_size}
use Rattle.fields.specs.Pages.{run_pages, pages_of}
use Rattle.release.proofs.Wiped.{wipe_turn}
use Rattle.release.proofs.release.zero_pages.Goals as goal

pub loop-x-init : goal.loop-x-init
unfolding joined
loop-x-init c = wipe_none page_size _

pub loop-x-preserved : goal.loop-x-preserved
loop-x-preserved c =
    let f = c.args.f.now in
    let h : c.loop-x.x-index < f.r = omega (arith, length-take f.r f.runs) in
    wipe_turn page_size c.args.memory.now (run_pages f) c.loop-x.x-index c.loop-x.invariant (c.zero_run.ensures ∙ rw get_or-take)

pub returns : goal.returns
unfolding pages_of
returns c =
    let f = c.args.f.now in
    let e : c.loop-x.x-index ≡ f.r = omega (arith, length-take f.r f.runs) in
    c.loop-x.invariant ∙ ap (λ (k : ℕ). wipe page_size c.args.memory.now (joined k (run_pages f))) e
