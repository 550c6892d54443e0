use native.Mathlib.Omega.{arith}
use mathlib.Core.Path.{◌≡◌}
use lib.ListN.{length}
use Rattle.devicemap.specs.Map.{bit_in, byte_in}
use Rattle.devicemap.proofs.Bits.{number_none, number_more}
use Rattle.devicemap.proofs.Maps.{bits_most}
use Rattle.devicemap.proofs.map_byte.Goals as goal

pub loop-j-init : goal.loop-j-init
loop-j-init c = let a = c.args in number_none (bit_in a.owner.now (length a.owner.now) a.i) (bits_most a.owner.now (length a.owner.now) a.i)

pub loop-j-preserved : goal.loop-j-preserved
loop-j-preserved c =
    let l = c.loop-j in
    let a = c.args in
    number_more (bit_in a.owner.now (length a.owner.now) a.i) (bits_most a.owner.now (length a.owner.now) a.i) l.j l.bits _ (omega arith) l.invariant c.shut.ensures.0

pub returns : goal.returns
unfolding byte_in
returns c =
    let q : c.loop-j.j ≡ 8 = omega arith in
    rw q at c.loop-j.invariant
