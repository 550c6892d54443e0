use mathlib.Core.Path.{◌∙◌}
use Rattle.start.proofs.Fresh.{fresh_painted}
use Rattle.start.proofs.fresh_owner.Goals as goal

pub returns : goal.returns
returns c = let a = c.args in c.paint.ensures ∙ fresh_painted a.p a.m c.requires.0 c.requires.1
