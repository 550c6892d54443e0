use Rattle.rules.proofs.Isolated.{isolated}
use Rattle.rules.proofs.isolation.Goals as goal

pub returns : goal.returns
returns c = isolated
