use Prim.Native.Nat.{ℕ}
use native.Mathlib.Omega.{arith}
use mathlib.Core.Path.{refl, sym, ap, ◌∙◌}
use mathlib.Core.List.{List}
use Rattle.manifest.specs.Layout.{fixed}
use Rattle.manifest.specs.Reader.{trailer_at, equal}
use Rattle.manifest.proofs.Equal.{five_bytes}
use Rattle.manifest.proofs.Steps.{trailer_test, trailer_is, trailer_bad, trailer_short}
use Rattle.manifest.proofs.trailer.Goals as goal

pub returns-then-n-lt-TRAILER : goal.returns-then-n-lt-TRAILER
returns-then-n-lt-TRAILER c = trailer_short _ c.if-n-lt-TRAILER.true

pub returns-then-fixed-counts : goal.returns-then-fixed-counts
returns-then-fixed-counts c =
    let l = c.args.bytes.now in
    let t = trailer_at l in
    trailer_is l _ _ _ (omega arith) refl refl
    (trailer_test l t _ _ c.eq-fixed.result c.counts_right-counts.result c.u32_at-runs.result c.u32_at-entries.result
    (c.eq-fixed.ensures ∙ ap (λ (z : List ℕ). equal z fixed) (sym (five_bytes l t (omega arith)))) c.counts_right-counts.ensures c.u32_at-runs.ensures c.u32_at-entries.ensures)
    c.if-fixed-counts.true

pub returns-else-fixed-counts : goal.returns-else-fixed-counts
returns-else-fixed-counts c =
    let l = c.args.bytes.now in
    let t = trailer_at l in
    trailer_bad l _ _ _ refl refl
    (trailer_test l t _ _ c.eq-fixed.result c.counts_right-counts.result c.u32_at-runs.result c.u32_at-entries.result
    (c.eq-fixed.ensures ∙ ap (λ (z : List ℕ). equal z fixed) (sym (five_bytes l t (omega arith)))) c.counts_right-counts.ensures c.u32_at-runs.ensures c.u32_at-entries.ensures)
    c.if-fixed-counts.false
