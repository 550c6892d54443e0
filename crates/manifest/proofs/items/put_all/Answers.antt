use native.Mathlib.Omega.{arith}
use mathlib.Core.Path.{refl, ◌∙◌}
use Rattle.manifest.proofs.Puts.{items_put}
use Rattle.manifest.proofs.items.put_all.Goals as goal

pub loop-k-preserved : goal.loop-k-preserved
loop-k-preserved g c =
    items_put g.T.Item.bytes_of g.met.T.Item.long c.args.buffer.now c.args.at c.args.items.now c.loop-k.k _ _ c.index-items-k.result c.loop-k.invariant c.loop-k-test.true c.index-items-k.is
    (c.copy_from_slice.ensures.after ∙ c.bytes.ensures) refl (omega arith) c.requires
