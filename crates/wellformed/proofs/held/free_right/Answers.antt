use Prim.Native.Nat.{ℕ}
use native.Mathlib.Omega.{arith}
use mathlib.Core.Path.{◌≡◌, ◌∙◌}
use mathlib.Core.Bool.{Bool, ◌&&◌}
use lib.Dec.{eqb}
use Rattle.lists.specs.Below.{all_below}
use Rattle.fields.specs.declared.Fields.{Fields}
use Rattle.fields.specs.Fields.{run_places, entry_places}
use Rattle.fields.specs.Rules.{unused_zero}
use Rattle.wellformed.specs.WellFormed.{run_zero_at, entry_zero_at, fields_zero}
use Rattle.wellformed.proofs.Slots.{all_unused}
use Rattle.wellformed.proofs.held.free_right.Goals as goal

-- where no place is in use, all places are zero
unused : (f : Fields) → f.r ≡ 0 → f.e ≡ 0 → unused_zero f ≡ all_below run_places (run_zero_at f) && all_below entry_places (entry_zero_at f)
unfolding unused_zero
unused f p q = rw (p, q, all_unused (run_zero_at f) run_places, all_unused (entry_zero_at f) entry_places)

free : (f : Fields) (m : ℕ) (u z : Bool) → m ≡ 0 → f.r ≡ 0 → f.e ≡ 0 → u ≡ unused_zero f → u && z ≡ (eqb m 0 && fields_zero f) && z
free f m u z h p q e = let v = e ∙ unused f p q in rw (v, h, p, q)

pub returns : goal.returns
returns c =
    rw c.pcrs_zero-zero.ensures
    (free c.args.f.now c.args.mark _ _ (omega (arith, c.if-mark-ne0.false)) (omega (arith, c.if-f-ne0.false)) (omega (arith, c.if-f-ne0-2.false)) c.unused_zero-unused.ensures)
