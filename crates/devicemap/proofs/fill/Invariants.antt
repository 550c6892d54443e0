use mathlib.Core.Path.{◌≡◌}
use lib.ListN.{length}
use Rattle.lists.proofs.Tables.{written}
use Rattle.devicemap.specs.Map.{byte_in}
use Rattle.devicemap.proofs.fill.Given as goal

abbrev pub invariant-loop-i : goal.invariant-loop-i
invariant-loop-i l = l.map ≡ written (byte_in l.owner (length l.owner)) l.initial.map l.i
