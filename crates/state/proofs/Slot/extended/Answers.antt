use Rattle.state.specs.Slots.{extended_pcrs, extended_slot}
use Rattle.state.proofs.Slot.extended.Goals as goal

pub returns : goal.returns
unfolding extended_slot extended_pcrs
returns c = rw (← c.hash_pair-new.ensures)
