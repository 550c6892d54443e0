use Rattle.round.proofs.Trips.{one_spelling}
use Rattle.round.proofs.one_spelling.Goals as goal

pub returns : goal.returns
returns c = one_spelling
