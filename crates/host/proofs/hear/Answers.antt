use native.Mathlib.Omega.{arith}
use borrow.Author.Rules.{rules}
use mathlib.Core.Path.{sym, ◌∙◌}
use Rattle.host.proofs.Carried.{looked_so, carried, not_carried}
use Rattle.host.proofs.hear.Goals as goal

pub decided-requires : goal.decided-requires
decided-requires c = c.requires ∙ sym (looked_so c.args.m c.args.q _ _ (sym c.in-Ok.is ∙ c.try_from.ensures) c.from.ensures)

pub returns : goal.returns
returns c =
    carried c.args.m c.args.q c.args.payload.now c.args.memory.now c.args.buffer.now c.decided.new.memory c.decided.new.buffer c.in-Ok.e c.from.result c.decided.result c.parts.result
    (omega arith) (search rules) (sym c.in-Ok.is ∙ c.try_from.ensures) c.from.ensures c.decided.ensures c.parts.ensures

pub returns-in_default : goal.returns-in_default
returns-in_default c =
    not_carried c.args.m c.args.q c.args.payload.now c.args.memory.now c.args.buffer.now c.in_default.field-0 c.unheard.result (sym c.in_default.is ∙ c.try_from.ensures) c.unheard.ensures
