use mathlib.Core.Path.{◌≡◌, sym, ◌∙◌}
use mathlib.Core.Bool.{true}
use Rattle.geometry.specs.Geometry.{is_range}
use Rattle.wellformed.proofs.Runs.{range_inside}
use native.Mathlib.Omega.{arith}
use Rattle.wellformed.proofs.running.out_right.Goals as goal

pub bounds-owner-p : goal.bounds-owner-p
bounds-owner-p c =
    let a = c.args in
    let t : is_range a.pages a.a a.n ≡ true = sym c.is_range.ensures ∙ c.if-not-is_range.false in
    omega (arith, range_inside a.pages a.a a.n t)
