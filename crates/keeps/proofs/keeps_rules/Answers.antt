use Prim.Native.Nat.{ℕ}
use native.Mathlib.Omega.{arith}
use mathlib.Core.Path.{◌≡◌, sym, ◌∙◌}
use mathlib.Core.Bool.{Bool, true}
use mathlib.Core.List.{[]}
use Rattle.fields.specs.Fields.{fields_of}
use Rattle.fields.specs.Rules.{counts_right, keeps_rules}
use Rattle.fields.proofs.Facts.{Counts, counts}
use Rattle.keeps.proofs.keeps_rules.Goals as goal

bounds : (r e : ℕ) (t : Bool) → t ≡ counts_right (fields_of r e [] []) → t ≡ true → Counts (fields_of r e [] [])
bounds r e t h y = counts _ (sym h ∙ y)

pub returns-then-not-counts_right : goal.returns-then-not-counts_right
unfolding keeps_rules counts_right
returns-then-not-counts_right c = let t = sym c.counts_right.ensures ∙ c.if-not-counts_right.true in rw t

pub runs_right-runs-requires : goal.runs_right-runs-requires
runs_right-runs-requires c = omega (arith, bounds _ _ _ c.counts_right.ensures c.if-not-counts_right.false)

pub entries_right-entries-requires : goal.entries_right-entries-requires
entries_right-entries-requires c =
    let n = bounds _ _ _ c.counts_right.ensures c.if-not-counts_right.false in
    (omega (arith, n), omega (arith, n))

pub unused_zero-unused-requires : goal.unused_zero-unused-requires
unused_zero-unused-requires c =
    let n = bounds _ _ _ c.counts_right.ensures c.if-not-counts_right.false in
    (omega (arith, n), omega (arith, n))

pub returns : goal.returns
unfolding keeps_rules counts_right
returns c = let t = sym c.counts_right.ensures ∙ c.if-not-counts_right.false in rw t cc
