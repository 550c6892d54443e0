-- `alive::refusals_given` keeps its promise: it is the theorem. Assumes nothing.
use Rattle.alive.proofs.Computed.{refusals_given}
use Rattle.alive.proofs.refusals_given.Goals as goal

pub returns : goal.returns
returns c = refusals_given
