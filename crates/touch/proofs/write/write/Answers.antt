use Rattle.rules.proofs.Ranges.{range_fits}
use Rattle.wellformed.proofs.States.{well_long}
use Rattle.touch.proofs.Plans.{write_4, write_5, write_on}
use Rattle.touch.specs.Carried.{access_of}
use Rattle.state.specs.Face.{face_of}
use lib.ListN.{length}
use native.Mathlib.Omega.{arith}
use mathlib.Core.Path.{refl, sym, ◌∙◌}
use Rattle.touch.proofs.write.write.Goals as goal

pub returns-then-not-is_range : goal.returns-then-not-is_range
returns-then-not-is_range c =
    let a = c.args in
    rw (write_4 a.s.mode (face_of a.s) (access_of a.access) a.address (length a.payload.now) (sym c.is_range.ensures ∙ c.if-not-is_range.true)) (refl, refl)

pub may_reach-requires : goal.may_reach-requires
may_reach-requires c = c.requires.1

pub returns-then-not-may_reach : goal.returns-then-not-may_reach
returns-then-not-may_reach c =
    let a = c.args in
    rw (write_5 a.s.mode (face_of a.s) (access_of a.access) a.address (length a.payload.now) (sym c.is_range.ensures ∙ c.if-not-is_range.false) (sym c.may_reach.ensures ∙ c.if-not-may_reach.true)) (refl, refl)

pub put_bytes-requires : goal.put_bytes-requires
put_bytes-requires c =
    let a = c.args in
    let e = sym c.is_range.ensures ∙ c.if-not-is_range.false in
    let h = range_fits a.s.pages a.address (length a.payload.now) e in
    omega (arith, well_long _ _ c.requires.0)

pub returns : goal.returns
returns c =
    let a = c.args in
    rw (write_on a.s.mode (face_of a.s) (access_of a.access) a.address (length a.payload.now) (sym c.is_range.ensures ∙ c.if-not-is_range.false) (sym c.may_reach.ensures ∙ c.if-not-may_reach.false)) (refl, c.put_bytes.ensures)
