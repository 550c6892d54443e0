use Rattle.state.specs.Slots.{entry_found}
use Rattle.state.proofs.Slot.entry_found.Goals as goal

pub returns : goal.returns
unfolding entry_found
returns c = c.first_at.ensures
