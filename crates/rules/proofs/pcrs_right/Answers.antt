-- `rules::pcrs_right` keeps its promise: it is the theorem. Assumes nothing.
use Rattle.rules.proofs.Measured.{pcrs_right_lem}
use Rattle.rules.proofs.pcrs_right.Goals as goal

pub returns : goal.returns
returns c = pcrs_right_lem
