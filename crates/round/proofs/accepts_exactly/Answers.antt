use Rattle.round.proofs.Trips.{accepts_exactly}
use Rattle.round.proofs.accepts_exactly.Goals as goal

pub returns : goal.returns
returns c = accepts_exactly
