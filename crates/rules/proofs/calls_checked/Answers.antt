-- `rules::calls_checked` keeps its promise: it is the theorem. Assumes nothing.
use Rattle.rules.proofs.Called.{calls_checked}
use Rattle.rules.proofs.calls_checked.Goals as goal

pub returns : goal.returns
returns c = calls_checked
