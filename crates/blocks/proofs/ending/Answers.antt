use mathlib.Core.Path.{ap, ◌∙◌}
use mathlib.Core.List.{List}
use Prim.Native.Nat.{ℕ}
use lib.ListN.{length}
use Rattle.lists.proofs.Numbers.{big_bytes}
use Rattle.lists.specs.Bytes.{zeros}
use Rattle.blocks.specs.Blocks.{rest}
use Rattle.blocks.proofs.Fold.{rest_long}
use Rattle.blocks.proofs.Filled.{ending_is}
use native.Mathlib.Omega.{arith}
use Rattle.blocks.proofs.ending.Goals as goal

pub returns : goal.returns
unfolding rest zeros
returns c =
    let x : List ℕ = c.args.last.now in
    let e = c.as_chunks.ensures.back in
    let l = ap length e ∙ rest_long x in
    ending_is x _ _ _ _ _ e c.copy_from_slice.ensures.after (c.copy_from_slice-2.ensures.after ∙ c.to_be_bytes.ensures ∙ big_bytes 8 _) (omega arith)
