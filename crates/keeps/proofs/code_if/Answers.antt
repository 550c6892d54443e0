use Prim.Native.Nat.{ℕ, ◌≤◌, ◌<◌}
use native.Mathlib.Omega.{arith}
use mathlib.Core.Path.{◌≡◌, sym, ◌∙◌, ap, subst}
use mathlib.Core.Bool.{Bool, false, ◌&&◌}
use lib.Dec.{ltb}
use borrow.Author.Tests.{ltb-true, lt-ltb}
use Rattle.lists.specs.Below.{any_below}
use Rattle.lists.proofs.Logic.{and_l, and_r}
use Rattle.lists.proofs.Any.{any_none, any_more, any_hit, any_not, any_no}
use Rattle.fields.specs.Rules.{in_code}
use Rattle.keeps.proofs.code_if.Goals as goal

-- a test that holds at no used place below i holds at none below r
none_used : (f : ℕ → Bool) (r i : ℕ) → r ≤ i → false ≡ any_below i (λ j. ltb j r && f j) → any_below r f ≡ false
none_used f r i p h = any_no _ r (λ j (q : j < r). subst (λ (b : Bool). b && f j ≡ false) (lt-ltb j r q) (any_not _ i (sym h) j (omega arith)))

pub loop-i-init : goal.loop-i-init
loop-i-init c = (c.if-not-ok.false, any_none _)

pub returns-then-i-f : goal.returns-then-i-f
unfolding in_code
returns-then-i-f c =
    let used : Bool = ltb c.loop-i.i c.args.f.now.r in
    let held : Bool = c.code_holds.result in
    rw c.loop-i.invariant.0 (any_hit _ _ c.loop-i.i (ltb-true _ _ (and_l used held c.if-i-f.true)) (sym c.code_holds.ensures ∙ and_r used held c.if-i-f.true))

pub loop-i-preserved : goal.loop-i-preserved
loop-i-preserved c =
    let off = ap (λ (b : Bool). ltb c.loop-i.i c.args.f.now.r && b) (sym c.code_holds.ensures) ∙ c.if-i-f.false in
    (c.loop-i.invariant.0, any_more _ c.loop-i.i c.loop-i.invariant.1 off)

pub returns : goal.returns
unfolding in_code
returns c = rw c.loop-i.invariant.0 (sym (none_used _ c.args.f.now.r c.loop-i.i (omega arith) c.loop-i.invariant.1))
