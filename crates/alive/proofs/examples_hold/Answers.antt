-- `alive::examples_hold` keeps its promise: it is the theorem. Assumes nothing.
use Rattle.alive.proofs.Computed.{examples_hold}
use Rattle.alive.proofs.examples_hold.Goals as goal

pub returns : goal.returns
returns c = examples_hold
