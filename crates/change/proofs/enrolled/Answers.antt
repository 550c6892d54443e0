use Rattle.state.specs.Slots.{extended_slot}
use Rattle.state.specs.declared.Slot.{Slot}
use Prim.Native.Nat.{◌+◌}
use mathlib.Core.Bool.{true}
use mathlib.Core.Path.{ap, ◌∙◌}
use Rattle.change.proofs.enrolled.Goals as goal

pub returns : goal.returns
unfolding extended_slot
returns c =
    let a = c.args in
    ap (λ (x : Slot). record { slot = record { card = record { registered = true; mark = a.mark; fields = a.fields }; pcrs = x.pcrs }; fields = a.fields; owner = a.k + 1 })
    (c.extended.ensures ∙ ap (λ (x : Slot). extended_slot x 0 a.digest) c.zero.ensures)
