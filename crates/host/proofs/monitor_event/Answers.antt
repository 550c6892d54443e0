use mathlib.Core.Path.{ap, ◌∙◌}
use Rattle.decide.specs.Looks.{seen_in}
use Rattle.twin.specs.Twin.{opened_of}
use Rattle.host.specs.Host.{host_looked}
use Rattle.host.proofs.monitor_event.Goals as goal

-- what was seen, at the looks that the request has
pub hear-h-requires : goal.hear-h-requires
unfolding host_looked
hear-h-requires c = c.sees-x.ensures ∙ ap (seen_in (opened_of c.args.m.now)) c.looking-l.ensures
