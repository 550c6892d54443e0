use Rattle.std.proofs.Common.{refl, ap, ◌∙◌}
use Rattle.blocks.specs.Blocks.{folded}
use Rattle.rounds.specs.Rounds.{compress}
use Rattle.sha_1.proofs.Ends.{tail_within, finished_is}
use Rattle.sha_1.proofs.finished.Goals as goal

pub as_slice-requires : goal.as_slice-requires
as_slice-requires c = tail_within _ _ _ c.ending-tail.ensures

pub returns : goal.returns
returns c =
    c.digest_of.ensures
    ∙ finished_is _ _ _ _ _ _
    c.folded-words.ensures
    refl
    c.ending-tail.ensures
    (c.folded.ensures ∙ ap (folded compress _) c.as_slice.ensures)
