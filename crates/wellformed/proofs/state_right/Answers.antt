use mathlib.Core.Path.{ap, ◌∙◌}
use Rattle.std.specs.Option.{is_some}
use Rattle.state.specs.declared.State.{State}
use Rattle.wellformed.specs.Seen.{seen_of}
use Rattle.wellformed.proofs.Sights.{seen_right}
use Rattle.wellformed.proofs.state_right.Goals as goal

pub returns : goal.returns
returns c = c.is_some.ensures ∙ ap is_some c.seen_in.ensures ∙ (ap (λ (x : State). is_some (seen_of x 0 0 0)) c.parts_of.ensures ∙ seen_right c.args.s 0 0 0)
