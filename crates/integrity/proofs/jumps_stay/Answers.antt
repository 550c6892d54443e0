-- `integrity::jumps_stay` keeps its promise: it is the theorem. Assumes nothing.
use Rattle.integrity.proofs.Entered.{jumps_stay}
use Rattle.integrity.proofs.jumps_stay.Goals as goal

pub returns : goal.returns
returns c = jumps_stay
