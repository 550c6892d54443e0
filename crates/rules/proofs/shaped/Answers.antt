use Rattle.state.proofs.Shaped.{state_shape}
use Rattle.rules.proofs.Shapes.{shaped}
use Rattle.rules.proofs.shaped.Goals as goal

pub returns : goal.returns
returns c = shaped c.args.s (state_shape c.args.s _ c.well_formed.0)
