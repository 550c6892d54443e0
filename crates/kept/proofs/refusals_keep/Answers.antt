-- `kept::refusals_keep` keeps its promise: it is the theorem. Assumes nothing.
use Rattle.kept.proofs.Refused.{refusals_keep}
use Rattle.kept.proofs.refusals_keep.Goals as goal

pub returns : goal.returns
returns c = refusals_keep
