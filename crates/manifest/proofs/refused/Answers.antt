use Prim.Native.Nat.{ℕ}
use mathlib.Core.Path.{ap}
use Rattle.fields.specs.Fields.{zero_fields}
use Rattle.manifest.specs.declared.Reading.{Reading}
use Rattle.manifest.specs.Reader.{refused_reading}
use Rattle.manifest.proofs.refused.Goals as goal

pub returns : goal.returns
unfolding refused_reading
returns c = ap {B = Reading} (λ (k : ℕ). record { refusal = k; fields = zero_fields }) c.from.ensures
