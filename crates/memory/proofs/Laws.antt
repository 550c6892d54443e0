-- What callers prove of the bytes that they name.
use Prim.Native.Nat.{ℕ, ◌+◌, ◌≤◌}
use mathlib.Core.List.{List}
use lib.ListN.{length}
use Rattle.memory.specs.Source.{InRange}
use Rattle.memory.specs.declared.Source.{Source}
use Rattle.memory.specs.declared.Source.TheVariants.{Payload, Memory}

-- a range in memory is in range, whatever is named
pub in_range_lem : (m : List ℕ) (source : Source) (at n : ℕ) → at + n ≤ length m → InRange m source at n
in_range_lem m Payload at n h = tt
in_range_lem m Memory at n h = h
