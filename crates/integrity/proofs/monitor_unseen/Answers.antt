-- `integrity::monitor_unseen` keeps its promise: it is the theorem. Assumes nothing.
use Rattle.integrity.proofs.Monitored.{monitor_unseen}
use Rattle.integrity.proofs.monitor_unseen.Goals as goal

pub returns : goal.returns
returns c = monitor_unseen
