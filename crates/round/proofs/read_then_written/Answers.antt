use Rattle.round.proofs.Trips.{read_then_written}
use Rattle.round.proofs.read_then_written.Goals as goal

pub returns : goal.returns
returns c = read_then_written
