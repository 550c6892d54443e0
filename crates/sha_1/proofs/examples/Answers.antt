use Rattle.sha_1.proofs.Computed.{examples}
use Rattle.sha_1.proofs.examples.Goals as goal

pub returns : goal.returns
returns c = examples
