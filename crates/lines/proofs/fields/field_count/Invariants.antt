use mathlib.Core.Path.{◌≡◌}
use Prim.Native.Nat.{◌+◌, ◌≤◌}
use lib.ListN.{take}
use Rattle.std.specs.List.{count_by}
use Rattle.numerals.specs.Place.{is_char}
use Rattle.lines.specs.Fields.{space}
use Rattle.lines.proofs.fields.field_count.Given as goal

abbrev pub invariant-loop-c : goal.invariant-loop-c
invariant-loop-c l = (l.count ≡ count_by (is_char space) (take l.c-index l.text) + 1) × (l.count ≤ l.c-index + 1)
