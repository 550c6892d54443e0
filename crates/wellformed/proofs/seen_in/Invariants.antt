use Prim.Native.Nat.{◌-◌}
use mathlib.Core.Path.{◌≡◌}
use Rattle.wellformed.specs.Seen.{state_in}
use Rattle.wellformed.proofs.Whole.{Gone}
use Rattle.wellformed.proofs.seen_in.Given as goal

abbrev pub invariant-loop-k : goal.invariant-loop-k
invariant-loop-k l = (l.top ≡ l.state.pages - l.state.kept) × Gone (state_in l.state) l.t l.k
