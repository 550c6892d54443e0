use Rattle.round.proofs.Trips.{written_then_read}
use Rattle.round.proofs.written_then_read.Goals as goal

pub returns : goal.returns
returns c = written_then_read
