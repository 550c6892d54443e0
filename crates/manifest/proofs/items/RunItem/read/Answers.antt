use Prim.Native.Nat.{ℕ, ◌+◌}
use native.Mathlib.Omega.{arith}
use mathlib.Core.Path.{◌≡◌, refl}
use mathlib.Core.List.{List, [], ◌∷◌}
use lib.ListN.{get_or}
use Rattle.std.specs.Int.{w16, w32, from_le_bytes}
use Rattle.fields.specs.declared.Run.{Run}
use Rattle.manifest.specs.Layout.{run_in}
use Rattle.manifest.proofs.Steps.{run_is, run_bad}
use Rattle.manifest.proofs.Widths.{read_2, read_4}
use Rattle.manifest.proofs.items.RunItem.read.Goals as goal

-- the run in eight bytes
whole : (l : List ℕ) (at m n : ℕ) → m ≡ from_le_bytes w16 (get_or l (at + 2) 0 ∷ get_or l (at + 3) 0 ∷ [])
    → n ≡ from_le_bytes w32 (get_or l (at + 4) 0 ∷ get_or l (at + 5) 0 ∷ get_or l (at + 6) 0 ∷ get_or l (at + 7) 0 ∷ [])
    → ◌≡◌ {A = Run} (record { kind = get_or l at 0; count = m; first = n }) (run_in l at)
whole l at m n p q =
    let a = read_2 l (at + 2) _ _ m refl (omega arith) p in
    let b = read_4 l (at + 4) _ _ _ _ n refl (omega arith) (omega arith) (omega arith) q in
    λ i. record { kind = get_or l at 0; count = a i; first = b i }

pub returns-then-bytes-at : goal.returns-then-bytes-at
returns-then-bytes-at c =
    run_is c.args.bytes.now c.args.at _ c.run_right-right.result
    (whole c.args.bytes.now c.args.at _ _ c.from_le_bytes.ensures c.from_le_bytes-2.ensures) c.run_right-right.ensures c.if-bytes-at.true

pub returns-else-bytes-at : goal.returns-else-bytes-at
returns-else-bytes-at c =
    run_bad c.args.bytes.now c.args.at _ c.run_right-right.result
    (whole c.args.bytes.now c.args.at _ _ c.from_le_bytes.ensures c.from_le_bytes-2.ensures) c.run_right-right.ensures c.if-bytes-at.false
