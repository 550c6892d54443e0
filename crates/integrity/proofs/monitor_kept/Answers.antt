-- `integrity::monitor_kept` keeps its promise: it is the theorem. Assumes nothing.
use Rattle.integrity.proofs.Monitored.{monitor_kept}
use Rattle.integrity.proofs.monitor_kept.Goals as goal

pub returns : goal.returns
returns c = monitor_kept
