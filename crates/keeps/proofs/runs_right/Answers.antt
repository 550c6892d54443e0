use Prim.Native.Nat.{ℕ, ◌<◌}
use native.Mathlib.Omega.{arith}
use mathlib.Core.Path.{ap, ◌∙◌}
use lib.ListN.{length-take}
use lib.Seq.{get_or-take}
use Rattle.lists.specs.Below.{pick}
use Rattle.fields.specs.declared.Run.{Run}
use Rattle.fields.specs.Fields.{no_run, end_of}
use Rattle.fields.specs.Rules.{is_code, is_param, run_right}
use Rattle.keeps.proofs.Passes.{runs_none, runs_step, runs_end}
use Rattle.keeps.proofs.runs_right.Goals as goal

pub loop-x-init : goal.loop-x-init
loop-x-init c = ((omega arith, (omega arith, omega arith)), runs_none _)

pub loop-x-preserved : goal.loop-x-preserved
loop-x-preserved c =
    let f = c.args.f.now in
    let h : c.loop-x.x-index < f.r = omega (arith, length-take f.r f.runs) in
    let q = get_or-take f.r f.runs c.loop-x.x-index no_run h in (
      (omega arith, (omega arith, omega arith)),
      rw q (runs_step f c.loop-x.x-index _ _ _ _ _ _ _ _ _ _ _ _ c.loop-x.invariant.1
          (c.run_right-each.ensures ∙ ap run_right q)
          (c.run_end-at.ensures.0 ∙ ap end_of q)
          (c.is_code-code.ensures ∙ ap is_code q)
          (c.if_param-params.ensures.0 ∙ ap (λ (x : Run). pick {A = ℕ} (is_param x) 1 0) q)
          (c.if_param-pages.ensures.0 ∙ ap (λ (x : Run). pick {A = ℕ} (is_param x) x.count 0) q)),
    )

pub returns : goal.returns
returns c =
    let f = c.args.f.now in
    runs_end f c.loop-x.x-index _ _ _ _ _ _ _ (omega (arith, length-take f.r f.runs)) (omega (arith, length-take f.r f.runs)) c.loop-x.invariant.1
