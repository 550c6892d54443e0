use Rattle.gather.proofs.Laws as laws
use Rattle.gather.proofs.last_lines.Goals as goal

pub returns : goal.returns
returns c = laws.last_lines
