use Rattle.decide.specs.Looks.{seen_in, looked}
use mathlib.Core.Path.{ap, ◌∙◌}
use Rattle.decide.proofs.looked.Goals as goal

pub returns : goal.returns
unfolding looked
returns c = c.seen.ensures ∙ ap (seen_in c.args.s) c.looking-look.ensures
