use Rattle.round.proofs.Trips.{lengths}
use Rattle.round.proofs.lengths.Goals as goal

pub returns : goal.returns
returns c = lengths
