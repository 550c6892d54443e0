use mathlib.Core.Path.{sym}
use Rattle.manifest.proofs.Puts.{run_bytes_lem}
use Rattle.manifest.proofs.items.RunItem.bytes.Goals as goal

pub returns : goal.returns
returns c = rw (c.to_le_bytes-count.ensures, c.to_le_bytes-first.ensures) (sym (run_bytes_lem c.args.self))
