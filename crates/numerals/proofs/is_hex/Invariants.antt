use mathlib.Core.Path.{◌≡◌}
use lib.ListN.{take}
use Rattle.std.specs.List.{list_all}
use Rattle.numerals.specs.Hex.{is_hex_digit}
use Rattle.numerals.proofs.is_hex.Given as goal

abbrev pub invariant-loop-c : goal.invariant-loop-c
invariant-loop-c l = l.right ≡ list_all is_hex_digit (take l.c-index l.text)
