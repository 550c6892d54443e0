use Prim.Native.Nat.{ℕ, ◌≤◌, ◌<◌}
use mathlib.Core.Path.{◌≡◌}
use mathlib.Core.Bool.{true}
use Rattle.fields.specs.Fields.{no_run, no_entry}
use Rattle.manifest.specs.Reader.{blank_at}
use Rattle.manifest.specs.Layout.{placed, entry_in_at, run_in_at}
use Rattle.manifest.proofs.Steps.{Got}
use Rattle.manifest.proofs.read.Given as goal

abbrev pub invariant-loop-i : goal.invariant-loop-i
invariant-loop-i l = Got l.bytes l.r l.e × (l.entries ≡ placed 8 l.i l.e (entry_in_at l.bytes l.r) no_entry)

abbrev pub invariant-loop-k : goal.invariant-loop-k
invariant-loop-k l = Got l.bytes l.r l.e × ((l.runs ≡ placed 4 l.k l.r (run_in_at l.bytes) no_run) × ((j : ℕ) → l.k ≤ j → j < l.r → blank_at l.bytes j ≡ true))
