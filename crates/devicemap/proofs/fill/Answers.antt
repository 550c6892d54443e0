use native.Mathlib.Omega.{arith}
use mathlib.Core.Path.{◌≡◌, refl, ◌∙◌}
use lib.ListN.{length}
use Rattle.lists.proofs.Tables.{written_none, written_more, written_all}
use Rattle.devicemap.specs.Map.{byte_in}
use Rattle.devicemap.proofs.fill.Goals as goal

pub loop-i-init : goal.loop-i-init
loop-i-init c = written_none _ _

pub loop-i-preserved : goal.loop-i-preserved
loop-i-preserved c =
    let a = c.args in
    let l = c.loop-i in
    rw (l.invariant, c.map_byte.ensures) (written_more (byte_in a.owner.now (length a.owner.now)) a.map.now l.i (omega arith))

pub returns : goal.returns
returns c =
    let a = c.args in
    let q : c.loop-i.i ≡ length a.map.now = omega arith in
    let e = rw q at c.loop-i.invariant in
    e ∙ written_all (byte_in a.owner.now (length a.owner.now)) a.map.now (length a.map.now) refl
