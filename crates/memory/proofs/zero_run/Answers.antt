use mathlib.Core.Path.{sym, ◌∙◌}
use Rattle.lists.proofs.Pages.{wipe_run}
use Rattle.memory.proofs.zero_run.Goals as goal

pub returns : goal.returns
returns c = c.zero_bytes.ensures ∙ sym (wipe_run _ _ _ _)
