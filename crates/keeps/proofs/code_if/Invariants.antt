use Prim.Native.Nat.{ℕ}
use mathlib.Core.Path.{◌≡◌}
use mathlib.Core.Bool.{Bool, true, false, ◌&&◌}
use lib.Dec.{ltb}
use Rattle.lists.specs.Below.{any_below}
use Rattle.fields.specs.declared.Fields.{Fields}
use Rattle.fields.specs.Rules.{code_holds_at}
use Rattle.keeps.proofs.code_if.Given as goal

-- the run stands in a used place, is code and has the page
abbrev pub used_at : Fields → ℕ → ℕ → Bool
used_at f page i = ltb i f.r && code_holds_at f page i

abbrev pub invariant-loop-i : goal.invariant-loop-i
invariant-loop-i l = (l.ok ≡ true) × (false ≡ any_below l.i (used_at l.f l.page))
