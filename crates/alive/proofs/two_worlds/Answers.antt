-- `alive::two_worlds` keeps its promise: it is the theorem. Assumes nothing.
use Rattle.alive.proofs.Ran.{two_worlds}
use Rattle.alive.proofs.two_worlds.Goals as goal

pub returns : goal.returns
returns c = two_worlds
