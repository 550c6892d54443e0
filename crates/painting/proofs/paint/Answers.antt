use native.Mathlib.Omega.{arith}
use Rattle.painting.proofs.Painted.{painted_part}
use Rattle.painting.proofs.paint.Goals as goal

pub returns : goal.returns
returns c = painted_part _ _ _ _ _ _ (omega arith) (omega arith) (c.fill.ensures.after (λ y h. h))
