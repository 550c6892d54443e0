use Rattle.start.proofs.Fresh.{refuses}
use Rattle.start.proofs.refuses.Goals as goal

pub returns : goal.returns
returns c = refuses
