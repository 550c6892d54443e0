-- `preserved::stays_well_formed` keeps its promise: it is the theorem. Assumes nothing.
use Rattle.preserved.proofs.Stays.{stays}
use Rattle.preserved.proofs.stays_well_formed.Goals as goal

pub returns : goal.returns
returns c = stays
