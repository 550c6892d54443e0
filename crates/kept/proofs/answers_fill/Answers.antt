-- `kept::answers_fill` keeps its promise: it is the theorem. Assumes nothing.
use Rattle.kept.proofs.Filled.{answers_fill}
use Rattle.kept.proofs.answers_fill.Goals as goal

pub returns : goal.returns
returns c = answers_fill
