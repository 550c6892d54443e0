use Rattle.enroll.proofs.FreeSlot.{free_place}
use Rattle.state.proofs.Shaped.{state_shape}
use mathlib.Core.Path.{◌∙◌}
use Rattle.enroll.proofs.free.free_slot.Goals as goal

pub returns : goal.returns
returns c = c.place_free.ensures ∙ free_place c.args.s (state_shape c.args.s _ c.well_formed.0).slots_long
