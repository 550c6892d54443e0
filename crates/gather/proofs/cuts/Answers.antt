use Rattle.gather.proofs.Laws as laws
use Rattle.gather.proofs.cuts.Goals as goal

pub returns : goal.returns
returns c = laws.cuts
