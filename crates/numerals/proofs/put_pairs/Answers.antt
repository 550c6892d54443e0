use mathlib.Core.Path.{sym, ◌∙◌}
use lib.ListN.{length-set}
use Rattle.numerals.proofs.Hexed.{pairs_turn, pairs_end}
use Prim.Native.Nat.{◌+◌, ◌*◌}
use native.Mathlib.Omega.{arith}
use Rattle.numerals.proofs.put_pairs.Goals as goal

pub loop-i-preserved : goal.loop-i-preserved
loop-i-preserved c =
    (pairs_turn c.loop-i.out c.args.bytes.now c.args.at c.loop-i.i _ _ (omega arith) c.hex_digit.ensures c.hex_digit-in-loop-i.ensures ∙ c.loop-i.invariant.0, simp length-set c.loop-i.invariant.1)

pub returns : goal.returns
returns c =
    sym (pairs_end c.loop-i.out c.args.bytes.now (c.args.at + c.loop-i.i * 2) c.loop-i.i c.loop-i-test.false) ∙ c.loop-i.invariant.0
