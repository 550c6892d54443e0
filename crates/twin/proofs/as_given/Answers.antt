use Rattle.twin.proofs.Laws.{given_back}
use Rattle.twin.proofs.as_given.Goals as goal

pub returns : goal.returns
returns c = given_back
