use Rattle.std.proofs.Common.{◌∙◌}
use Rattle.sha_1.proofs.Ends.{five_words}
use Rattle.sha_1.proofs.digest_of.Goals as goal

pub returns : goal.returns
returns c =
    c.copy_from_slice.ensures.after
    ∙ c.as_flattened.ensures.value
    ∙ five_words c.args.w _ _ _ _ _ c.to_be_bytes.ensures c.to_be_bytes-2.ensures c.to_be_bytes-3.ensures c.to_be_bytes-4.ensures c.to_be_bytes-5.ensures
