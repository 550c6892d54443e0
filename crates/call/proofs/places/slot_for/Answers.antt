use Rattle.call.proofs.Calls.{place_found, sought_at, sought_none}
use Rattle.rules.specs.Tests.{slot_for}
use Rattle.state.proofs.Shaped.{state_shape}
use Rattle.state.specs.Face.{face_of}
use mathlib.Core.Path.{◌∙◌}
use Rattle.call.proofs.places.slot_for.Goals as goal

pub returns-in_err-k : goal.returns-in_err-k
returns-in_err-k c =
    let a = c.args in
    let e = sought_none a.s (slot_for (face_of a.s) a.mark a.address) (c.in_err-k.ensures ∙ place_found a.s c.requires (state_shape a.s _ c.well_formed.0).slots_long a.mark a.address) in
    cc

pub returns : goal.returns
returns c =
    let a = c.args in
    sought_at a.s (slot_for (face_of a.s) a.mark a.address) c.in_ok-k.k (c.in_ok-k.ensures ∙ place_found a.s c.requires (state_shape a.s _ c.well_formed.0).slots_long a.mark a.address)
