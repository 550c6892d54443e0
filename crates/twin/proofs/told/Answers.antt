use Rattle.twin.proofs.Laws.{number_told}
use Rattle.twin.proofs.told.Goals as goal

pub returns : goal.returns
returns c = number_told
