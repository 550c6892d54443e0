use mathlib.Core.Path.{◌≡◌}
use Prim.Native.Nat.{◌*◌, ◌+◌}
use lib.ListN.{length, drop}
use lib.Seq.{sets}
use Rattle.numerals.specs.Hex.{pairs}
use Rattle.numerals.proofs.put_pairs.Given as goal

abbrev pub invariant-loop-i : goal.invariant-loop-i
invariant-loop-i l = (sets l.out (l.at + l.i * 2) (pairs (drop l.i l.bytes)) ≡ sets l.initial.out l.at (pairs l.bytes)) × (length l.out ≡ length l.initial.out)
