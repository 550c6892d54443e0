use mathlib.Core.Path.{refl}
use Rattle.manifest.proofs.Widths.{read_4}
use Rattle.manifest.proofs.u32_at.Goals as goal

pub returns : goal.returns
returns c = read_4 c.args.bytes.now c.args.at _ _ _ _ _ refl refl refl refl c.from_le_bytes.ensures
