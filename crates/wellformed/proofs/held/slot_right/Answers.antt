use Rattle.wellformed.proofs.Slots.{slot_used, slot_free}
use Rattle.wellformed.proofs.held.slot_right.Goals as goal

pub returns-then-x : goal.returns-then-x
returns-then-x c = slot_used c.args.x.now c.args.top _ c.if-x.true c.used_right.ensures

pub returns : goal.returns
returns c = slot_free c.args.x.now c.args.top _ c.if-x.false c.free_right.ensures
