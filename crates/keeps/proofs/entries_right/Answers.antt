use Prim.Native.Nat.{ℕ, ◌<◌}
use native.Mathlib.Omega.{arith}
use mathlib.Core.Path.{◌≡◌, sym, ◌∙◌}
use mathlib.Core.Bool.{Bool, ◌&&◌}
use lib.Dec.{leb}
use lib.ListN.{length-take}
use lib.Seq.{get_or-take}
use Rattle.geometry.specs.Geometry.{page_of}
use Rattle.fields.specs.declared.Entry.{Entry}
use Rattle.fields.specs.declared.Fields.{Fields}
use Rattle.fields.specs.Fields.{no_entry, entry_at}
use Rattle.fields.specs.Rules.{in_code, lengths_right}
use Rattle.keeps.proofs.Passes.{entry_test, entries_none, entries_step, entries_wrong, entries_end}
use Rattle.keeps.proofs.entries_right.Goals as goal

-- the code's test of entry i, by the answers of its three calls
test : (f : Fields) (x : Entry) (i least page : ℕ) (lengths ok : Bool) → x ≡ entry_at f i → lengths ≡ lengths_right x → page ≡ page_of x.address
    → ok ≡ (lengths && leb least x.address) && in_code f page → ok ≡ entry_test f i least
test f x i least page lengths ok q a b h = rw (h, a, b, q)

pub loop-x-init : goal.loop-x-init
loop-x-init c = entries_none _

pub returns-then-not-code_if : goal.returns-then-not-code_if
returns-then-not-code_if c =
    let f = c.args.f.now in
    let h : c.loop-x.x-index < f.e = omega (arith, length-take f.e f.entries) in
    let q = get_or-take f.e f.entries c.loop-x.x-index no_entry h in
    let t = test f _ c.loop-x.x-index c.loop-x.least _ _ _ q c.lengths_right-lengths.ensures c.page_of.ensures c.code_if.ensures in
    entries_wrong f c.loop-x.x-index _ c.loop-x.invariant h (sym t ∙ c.if-not-code_if.true)

pub loop-x-preserved : goal.loop-x-preserved
loop-x-preserved c =
    let f = c.args.f.now in
    let h : c.loop-x.x-index < f.e = omega (arith, length-take f.e f.entries) in
    let q = get_or-take f.e f.entries c.loop-x.x-index no_entry h in
    let t = test f _ c.loop-x.x-index c.loop-x.least _ _ _ q c.lengths_right-lengths.ensures c.page_of.ensures c.code_if.ensures in
    rw q (entries_step f c.loop-x.x-index _ c.loop-x.invariant (sym t ∙ c.if-not-code_if.false))

pub returns : goal.returns
returns c =
    let f = c.args.f.now in
    entries_end f c.loop-x.x-index _ c.loop-x.invariant (omega (arith, length-take f.e f.entries)) (omega (arith, length-take f.e f.entries))
