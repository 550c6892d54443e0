use Rattle.answers.proofs.Determines.{determines}
use Rattle.answers.proofs.determined.Goals as goal

pub returns : goal.returns
returns c = determines
