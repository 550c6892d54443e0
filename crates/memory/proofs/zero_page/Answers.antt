use Rattle.lists.specs.Bytes.{wipe}
use Rattle.memory.proofs.zero_page.Goals as goal

pub returns : goal.returns
unfolding wipe
returns c = c.zero_bytes.ensures
