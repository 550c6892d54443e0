use Prim.Native.Nat.{◌+◌, ◌-◌, ◌*◌}
use native.Mathlib.Omega.{arith}
use mathlib.Core.Path.{◌≡◌, sym, ◌∙◌}
use mathlib.Core.Bool.{true}
use Rattle.lists.specs.Below.{table}
use Rattle.fields.specs.Fields.{no_run, no_entry}
use Rattle.manifest.specs.Layout.{entry_in_at, run_in_at}
use Rattle.manifest.specs.Reader.{blank_at}
use Rattle.manifest.proofs.Places.{placed_none, placed_back, placed_end, down_more}
use Rattle.manifest.proofs.Steps.{trailer_got, entry_got, run_got, out_trailer, out_entry, out_run, out_broken, out_yes}
use Rattle.manifest.proofs.read.Goals as goal

pub returns-in_default : goal.returns-in_default
returns-in_default c = c.refused.ensures ∙ out_trailer c.args.bytes.now (sym c.trailer.ensures ∙ c.in_default.is)

pub loop-i-init : goal.loop-i-init
unfolding table
loop-i-init c = (trailer_got _ _ (sym c.trailer.ensures ∙ c.in-Some.is), sym (placed_none 8 c.in-Some.counts.e _ no_entry))

pub returns-in_default-read : goal.returns-in_default-read
returns-in_default-read c =
    c.refused-in_default-read.ensures ∙ out_entry c.args.bytes.now _ _ c.loop-i.invariant.0 (c.loop-i.i - 1) (omega arith) (sym c.read.ensures ∙ c.in_default-read.is)

pub loop-i-preserved : goal.loop-i-preserved
loop-i-preserved c =
    let a = c.args.bytes.now in
    let n = c.in-Some.counts in
    let x = entry_got a (8 * n.r + 8 * (c.loop-i.i - 1)) c.in-Some-read.x (sym c.read.ensures ∙ c.in-Some-read.is) in
    (c.loop-i.invariant.0, placed_back 8 c.loop-i.i n.e (entry_in_at a n.r) no_entry _ c.loop-i.invariant.1 (omega arith) (omega arith) (omega arith) x)

pub loop-k-init : goal.loop-k-init
unfolding table
loop-k-init c = (c.loop-i.invariant.0, (sym (placed_none 4 c.in-Some.counts.r _ no_run), λ j p q. absurd (omega arith)))

pub returns-in_default-read-2 : goal.returns-in_default-read-2
returns-in_default-read-2 c =
    c.refused-in_default-read-2.ensures ∙ out_run c.args.bytes.now _ _ c.loop-k.invariant.0 (c.loop-k.k - 1) (omega arith) (sym c.read-in-loop-k.ensures ∙ c.in_default-read-2.is)

pub loop-k-preserved : goal.loop-k-preserved
loop-k-preserved c =
    let a = c.args.bytes.now in
    let n = c.in-Some.counts in
    let y = run_got a (8 * (c.loop-k.k - 1)) c.in-Some-read-2.y (sym c.read-in-loop-k.ensures ∙ c.in-Some-read-2.is) in (
      c.loop-k.invariant.0,
      (
        placed_back 4 c.loop-k.k n.r (run_in_at a) no_run _ c.loop-k.invariant.1.0 (omega arith) (omega arith) (omega arith) y.0,
        down_more (λ j. blank_at a j ≡ true) c.loop-k.k n.r c.loop-k.invariant.1.1 y.1,
      ),
    )

pub returns-then-not-keeps_rules : goal.returns-then-not-keeps_rules
returns-then-not-keeps_rules c =
    let a = c.args.bytes.now in
    c.refused-then-not-keeps_rules.ensures
    ∙ out_broken a _ _ c.loop-k.invariant.0 _ _
    (placed_end 4 c.loop-k.k _ _ no_run c.loop-k.invariant.1.0 (omega arith)) (placed_end 8 c.loop-i.i _ _ no_entry c.loop-i.invariant.1 (omega arith))
    (sym c.keeps_rules.ensures ∙ c.if-not-keeps_rules.true)

pub returns : goal.returns
returns c =
    let a = c.args.bytes.now in
    out_yes a _ _ c.loop-k.invariant.0 _ _
    (placed_end 4 c.loop-k.k _ _ no_run c.loop-k.invariant.1.0 (omega arith)) (placed_end 8 c.loop-i.i _ _ no_entry c.loop-i.invariant.1 (omega arith))
    (λ j p q. c.loop-k.invariant.1.1 j (omega arith) q) (sym c.keeps_rules.ensures ∙ c.if-not-keeps_rules.false)
