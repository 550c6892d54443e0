use mathlib.Core.Path.{◌∙◌}
use Rattle.change.specs.Parts.{mode_stored}
use Rattle.state.proofs.Shaped.{state_shape}
use Rattle.change.proofs.Parts.{by_parts}
use Rattle.change.proofs.changed.Goals as goal

pub returns : goal.returns
returns c =
    let a = c.args in
    c.mode_stored.ensures ∙ (λ i. mode_stored (c.seat_stored.ensures i) (c.steering.ensures i))
    ∙ by_parts a.s a.c.turn (state_shape a.s _ c.well_formed.0).owner_long c.requires
