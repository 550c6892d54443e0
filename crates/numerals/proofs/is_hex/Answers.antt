use mathlib.Core.Path.{◌≡◌, sym, ap, ◌∙◌}
use mathlib.Core.Bool.{Bool, ◌&&◌}
use mathlib.Core.List.{List, [], ◌∷◌}
use Prim.Native.Nat.{ℕ}
use lib.Dec.{eqb}
use lib.Pointwise.{pointwise}
use lib.ListN.{length, take}
use native.Mathlib.Omega.{arith}
use borrow.Author.Tests.{leb-true}
use Rattle.std.proofs.lemmas.List.{take_all}
use Rattle.std.proofs.lemmas.List.Folds.{list_all_more}
use Rattle.std.specs.List.{list_all}
use Rattle.std.specs.Option.{is_some}
use Rattle.numerals.specs.Hex.{is_hex_digit}
use Rattle.numerals.proofs.Hexed.{hex_dash, hex_pairs, pairs_all, pairs_odd, pairs_few}
use Rattle.numerals.proofs.is_hex.Goals as goal
use Rattle.numerals.proofs.is_hex.Goals.{then-text-ge2, else-text-ge2}

-- what the comparison with `-` says
dashed : {t : Bool} (l d : List ℕ) → t ≡ pointwise eqb l d → d ≡ 45 ∷ [] → t ≡ pointwise eqb l (45 ∷ [])
dashed l d e f = e ∙ ap (λ (x : List ℕ). pointwise eqb l x) f

pub returns-then-eq : goal.returns-then-eq
returns-then-eq c = hex_dash c.args.text.now (dashed _ _ c.if-eq.ensures c.as_slice.ensures)

pub loop-c-preserved : goal.loop-c-preserved
loop-c-preserved c =
    let l = c.args.text.now in
    let i = c.loop-c.c-index in
    ap (λ (t : Bool). t && c.is_some-right.result) c.loop-c.invariant
    ∙ (ap (λ (t : Bool). list_all is_hex_digit (take i l) && t) (c.is_some-right.ensures ∙ ap is_some c.hex_value.ensures)
    ∙ sym (list_all_more is_hex_digit l i 0 (omega arith)))

pub returns-then-text-eq0 : goal.returns-then-text-eq0
returns-then-text-eq0 c =
    let l = c.args.text.now in
    hex_pairs l _ (dashed _ _ c.if-eq.ensures c.as_slice.ensures)
    (elim c.if-text-ge2.branch [
      | then-text-ge2 w ↦ pairs_all l _ w.if-text-ge2.true (sym w.value-is ∙ c.if-text-eq0.true)
          (c.loop-c.invariant ∙ ap (list_all is_hex_digit) (take_all c.loop-c.c-index l c.loop-c-test.false))
      | else-text-ge2 w ↦ absurd (omega (arith, leb-true 2 (length l) (sym w.value-is ∙ c.if-text-eq0.true), w.if-text-ge2.false))
    ])

pub returns-else-text-eq0 : goal.returns-else-text-eq0
returns-else-text-eq0 c =
    let l = c.args.text.now in
    hex_pairs l _ (dashed _ _ c.if-eq.ensures c.as_slice.ensures)
    (elim c.if-text-ge2.branch [
      | then-text-ge2 w ↦ c.if-text-eq0.false ∙ pairs_odd l (sym w.value-is ∙ c.if-text-eq0.false)
      | else-text-ge2 w ↦ c.if-text-eq0.false ∙ pairs_few l w.if-text-ge2.false
    ])
