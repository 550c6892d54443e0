use Prim.Native.Nat.{ℕ, ◌+◌}
use native.Mathlib.Omega.{arith}
use mathlib.Core.Path.{◌≡◌, refl, sym, ◌∙◌}
use mathlib.Core.List.{List, [], ◌∷◌}
use lib.ListN.{get_or}
use Rattle.std.specs.Int.{w16, w32, from_le_bytes}
use Rattle.fields.specs.declared.Entry.{Entry}
use Rattle.manifest.specs.Layout.{entry_in}
use Rattle.manifest.proofs.Steps.{entry_is, entry_bad}
use Rattle.manifest.proofs.Widths.{read_2, read_4}
use Rattle.manifest.proofs.items.EntryItem.read.Goals as goal

-- the entry in eight bytes
whole : (l : List ℕ) (at n x y : ℕ) → n ≡ from_le_bytes w32 (get_or l at 0 ∷ get_or l (at + 1) 0 ∷ get_or l (at + 2) 0 ∷ get_or l (at + 3) 0 ∷ [])
    → x ≡ from_le_bytes w16 (get_or l (at + 4) 0 ∷ get_or l (at + 5) 0 ∷ []) → y ≡ from_le_bytes w16 (get_or l (at + 6) 0 ∷ get_or l (at + 7) 0 ∷ [])
    → ◌≡◌ {A = Entry} (record { address = n; input = x; output = y }) (entry_in l at)
whole l at n x y p q r =
    let a = read_4 l at _ _ _ _ n refl refl refl refl p in
    let b = read_2 l (at + 4) _ _ x refl (omega arith) q in
    let d = read_2 l (at + 6) _ _ y refl (omega arith) r in
    λ i. record { address = a i; input = b i; output = d i }

pub returns-then-lengths_right : goal.returns-then-lengths_right
returns-then-lengths_right c =
    entry_is c.args.bytes.now c.args.at _
    (whole c.args.bytes.now c.args.at _ _ _ c.from_le_bytes.ensures c.from_le_bytes-2.ensures c.from_le_bytes-3.ensures) (sym c.lengths_right.ensures ∙ c.if-lengths_right.true)

pub returns-else-lengths_right : goal.returns-else-lengths_right
returns-else-lengths_right c =
    entry_bad c.args.bytes.now c.args.at _
    (whole c.args.bytes.now c.args.at _ _ _ c.from_le_bytes.ensures c.from_le_bytes-2.ensures c.from_le_bytes-3.ensures) (sym c.lengths_right.ensures ∙ c.if-lengths_right.false)
