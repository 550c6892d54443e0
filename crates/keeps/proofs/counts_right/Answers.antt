use Rattle.fields.specs.Rules.{counts_right}
use mathlib.Core.Path.{refl}
use Rattle.keeps.proofs.counts_right.Goals as goal

pub returns : goal.returns
unfolding counts_right
returns c = refl
