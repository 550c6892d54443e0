use Prim.Native.Nat.{◌*◌, ◌/◌}
use Rattle.release.proofs.Releases.{jump_4, jump_5, jump_on}
use Rattle.state.specs.Face.{face_of}
use Rattle.rules.specs.Plan.{Plan}
use borrow.Author.Tests.{lt-ltb, le-ltb, eq-eqb, ne_eqb}
use mathlib.Core.Path.{◌≡◌, sym, ap}
use native.Mathlib.Omega.{arith}
use Rattle.release.proofs.jump.jump_legacy.Goals as goal

-- past both tests the page is open
pub returns : goal.returns
returns c =
    let a = c.args in
    let open_page : a.v ≡ 0 = omega arith in
    ap (λ (p : Plan). p.answer) (sym (jump_on (face_of a.s) a.address (lt-ltb a.address (a.s.pages * 4096) (omega (arith, c.if-s-page.false))) (rw (lt-ltb (a.address / 4096) a.s.pages c.if-s-page.false, ← c.requires) (eq-eqb a.v 0 open_page))))

pub returns-then-s-page : goal.returns-then-s-page
returns-then-s-page c = let a = c.args in ap (λ (p : Plan). p.answer) (sym (jump_4 (face_of a.s) a.address (le-ltb a.address (a.s.pages * 4096) (omega (arith, c.if-s-page.true)))))

pub returns-then-v-ne0 : goal.returns-then-v-ne0
returns-then-v-ne0 c =
    let a = c.args in
    ap (λ (p : Plan). p.answer) (sym (jump_5 (face_of a.s) a.address (lt-ltb a.address (a.s.pages * 4096) (omega (arith, c.if-s-page.false))) (rw (lt-ltb (a.address / 4096) a.s.pages c.if-s-page.false, ← c.requires) (ne_eqb a.v 0 c.if-v-ne0.true))))
