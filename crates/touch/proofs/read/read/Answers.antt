use Rattle.rules.proofs.Ranges.{range_fits}
use Rattle.wellformed.proofs.States.{well_long}
use Rattle.touch.proofs.Plans.{read_4, read_5, read_9, read_on}
use Rattle.touch.specs.Carried.{access_of}
use Rattle.state.specs.Face.{face_of}
use native.Mathlib.Omega.{arith}
use mathlib.Core.Path.{refl, sym, ◌∙◌}
use borrow.Author.Tests.{lt-leb, le-leb}
use Rattle.touch.proofs.read.read.Goals as goal

pub returns-then-not-is_range : goal.returns-then-not-is_range
returns-then-not-is_range c =
    let a = c.args in
    rw (read_4 a.s.mode (face_of a.s) (access_of a.access) _ a.address a.n (sym c.is_range.ensures ∙ c.if-not-is_range.true)) (refl, refl)

pub may_reach-requires : goal.may_reach-requires
may_reach-requires c = c.requires.1

pub returns-then-not-may_reach : goal.returns-then-not-may_reach
returns-then-not-may_reach c =
    let a = c.args in
    rw (read_5 a.s.mode (face_of a.s) (access_of a.access) _ a.address a.n (sym c.is_range.ensures ∙ c.if-not-is_range.false) (sym c.may_reach.ensures ∙ c.if-not-may_reach.true)) (refl, refl)

pub returns-then-buffer-n : goal.returns-then-buffer-n
returns-then-buffer-n c =
    let a = c.args in
    rw (read_9 a.s.mode (face_of a.s) (access_of a.access) _ a.address a.n (sym c.is_range.ensures ∙ c.if-not-is_range.false) (sym c.may_reach.ensures ∙ c.if-not-may_reach.false) (lt-leb _ _ c.if-buffer-n.true)) (refl, refl)

pub give_bytes-requires : goal.give_bytes-requires
give_bytes-requires c =
    let a = c.args in
    let e = sym c.is_range.ensures ∙ c.if-not-is_range.false in
    let h = range_fits a.s.pages a.address a.n e in
    (omega (arith, well_long _ _ c.requires.0), c.if-buffer-n.false)

pub returns : goal.returns
returns c =
    let a = c.args in
    rw (read_on a.s.mode (face_of a.s) (access_of a.access) _ a.address a.n (sym c.is_range.ensures ∙ c.if-not-is_range.false) (sym c.may_reach.ensures ∙ c.if-not-may_reach.false) (le-leb _ _ c.if-buffer-n.false)) (refl, c.give_bytes.ensures)
