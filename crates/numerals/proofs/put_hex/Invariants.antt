use mathlib.Core.Path.{◌≡◌}
use lib.ListN.{length}
use lib.Seq.{sets}
use Rattle.lists.specs.Below.{table}
use Rattle.numerals.specs.Hex.{pair_at}
use Rattle.numerals.proofs.put_hex.Given as goal

abbrev pub invariant-loop-i : goal.invariant-loop-i
invariant-loop-i l = (l.out ≡ sets l.initial.out 0 (table (pair_at l.text) l.i)) × (length l.out ≡ length l.initial.out)
