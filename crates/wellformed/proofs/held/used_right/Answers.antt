use native.Mathlib.Omega.{arith}
use mathlib.Core.Path.{◌≡◌, sym, ◌∙◌}
use mathlib.Core.Bool.{Bool, true}
use Rattle.fields.specs.declared.Fields.{Fields}
use Rattle.fields.specs.Rules.{keeps_rules}
use Rattle.fields.proofs.Facts.{Counts, kept}
use Rattle.wellformed.proofs.Slots.{under_last}
use Rattle.wellformed.proofs.held.used_right.Goals as goal

bounds : (f : Fields) (t : Bool) → t ≡ keeps_rules f → t ≡ true → Counts f
bounds f t h y = (kept f (sym h ∙ y)).bounds

pub overflow_sub-f : goal.overflow_sub-f
overflow_sub-f c = omega (arith, bounds _ _ c.keeps_rules.ensures c.if-not-keeps_rules.false)

pub offset_bounds-f-f : goal.offset_bounds-f-f
offset_bounds-f-f c = omega (arith, bounds _ _ c.keeps_rules.ensures c.if-not-keeps_rules.false)

pub bounds-f-f : goal.bounds-f-f
bounds-f-f c = omega (arith, bounds _ _ c.keeps_rules.ensures c.if-not-keeps_rules.false)

pub returns : goal.returns
returns c =
    let f = c.args.f.now in
    let h : keeps_rules f ≡ true = sym c.keeps_rules.ensures ∙ c.if-not-keeps_rules.false in
    rw (h, c.run_end.ensures.0) (under_last f c.args.top h)
