-- `kept::refusals_named` keeps its promise: it is the theorem. Assumes nothing.
use Rattle.kept.proofs.Refused.{refusals_named}
use Rattle.kept.proofs.refusals_named.Goals as goal

pub returns : goal.returns
returns c = refusals_named
