use Rattle.sha_1.proofs.Holds.{holds_start, holds_taken, holds_finished}
use Rattle.sha_1.proofs.laws.Goals as goal

pub returns : goal.returns
returns c = record { begun = holds_start; followed = holds_taken; ended = holds_finished }
