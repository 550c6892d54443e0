use Rattle.start.proofs.Fresh.{accepts}
use Rattle.start.proofs.accepts.Goals as goal

pub returns : goal.returns
returns c = accepts
