-- `alive::events_accepted` keeps its promise: it is the theorem. Assumes nothing.
use Rattle.alive.proofs.Computed.{events_accepted}
use Rattle.alive.proofs.events_accepted.Goals as goal

pub returns : goal.returns
returns c = events_accepted
