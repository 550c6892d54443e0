use mathlib.Core.Path.{sym}
use Rattle.manifest.proofs.Puts.{entry_bytes_lem}
use Rattle.manifest.proofs.items.EntryItem.bytes.Goals as goal

pub returns : goal.returns
returns c = rw (c.to_le_bytes-address.ensures, c.to_le_bytes-input.ensures, c.to_le_bytes-output.ensures) (sym (entry_bytes_lem c.args.self))
