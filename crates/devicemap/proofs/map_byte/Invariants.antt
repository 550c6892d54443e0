use mathlib.Core.Path.{◌≡◌}
use lib.ListN.{length}
use Rattle.devicemap.specs.Map.{number_of, bit_in}
use Rattle.devicemap.proofs.map_byte.Given as goal

abbrev pub invariant-loop-j : goal.invariant-loop-j
invariant-loop-j l = l.bits ≡ number_of l.j (bit_in l.owner (length l.owner) l.i)
