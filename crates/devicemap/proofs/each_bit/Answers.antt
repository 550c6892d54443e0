use Rattle.devicemap.proofs.Maps.{each_bit}
use Rattle.devicemap.proofs.each_bit.Goals as goal

pub returns : goal.returns
returns c = each_bit
