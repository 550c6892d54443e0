use Rattle.std.proofs.Common.{ap, ◌∙◌, arith, take_all}
use Rattle.blocks.proofs.Fold.{fold_chunks}
use Rattle.blocks.specs.Blocks.{folded}
use Rattle.rounds.specs.Rounds.{compress}
use Rattle.std.specs.List.{fold}
use Rattle.sha_1.proofs.folded.Goals as goal

pub returns : goal.returns
unfolding folded
returns c =
    let h = c.args.h in
    let bs = c.as_chunks.result.0.now in
    c.loop-b.invariant
    ∙ ap (fold compress h) (take_all c.loop-b.b-index bs (omega arith) ∙ c.as_chunks.ensures.front)
    ∙ fold_chunks compress h c.args.p.now _
