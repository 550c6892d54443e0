use Rattle.twin.proofs.Laws.{read_off}
use Rattle.twin.proofs.answered.Goals as goal

pub returns : goal.returns
returns c = read_off
