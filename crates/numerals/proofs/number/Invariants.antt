use mathlib.Core.Path.{◌≡◌}
use mathlib.Core.Bool.{true}
use Prim.Native.Nat.{◌<◌, ◌^◌}
use Rattle.lists.specs.Below.{all_below}
use Rattle.numerals.specs.Decimal.{value_of, digit_at}
use Rattle.numerals.proofs.number.Given as goal

abbrev pub invariant-loop-c : goal.invariant-loop-c
invariant-loop-c l = (true ≡ all_below l.c-index (digit_at l.text)) × (l.value ≡ value_of l.text l.c-index) × (l.value < 2 ^ 64)
