use Prim.Native.Nat.{ℕ, ◌<◌}
use native.Mathlib.Omega.{arith}
use mathlib.Core.Path.{◌≡◌, sym, ap, ◌∙◌}
use lib.ListN.{get_or, take, length-take}
use lib.Seq.{get_or-take}
use Rattle.lists.proofs.First.{first_none, first_more}
use Rattle.fields.specs.declared.Fields.{Fields}
use Rattle.fields.specs.declared.Run.{Run}
use Rattle.fields.specs.Fields.{no_run, run_at}
use Rattle.fields.specs.Rules.{is_param}
use Rattle.fields.specs.Pages.{is_param_at}
use Rattle.call.proofs.Entries.{param_hit, param_none}
use Rattle.call.proofs.places.param_of.Goals as goal

-- a run in use is the fields' run of that number
in_use : (f : Fields) (i : ℕ) → i < f.r → get_or (take f.r f.runs) i no_run ≡ run_at f i
in_use f i h = get_or-take f.r f.runs i no_run h

pub loop-x-init : goal.loop-x-init
loop-x-init c = first_none _

pub loop-x-preserved : goal.loop-x-preserved
loop-x-preserved c =
    let f = c.args.f.now in
    let i = c.loop-x.x-index in
    let h : i < f.r = omega (arith, length-take f.r f.runs) in
    first_more (is_param_at f) i c.loop-x.invariant (ap is_param (sym (in_use f i h)) ∙ sym c.is_param.ensures ∙ c.if-is_param.false)

pub returns-then-is_param : goal.returns-then-is_param
returns-then-is_param c =
    let f = c.args.f.now in
    let i = c.loop-x.x-index in
    let h : i < f.r = omega (arith, length-take f.r f.runs) in
    ap (λ (x : Run). x.first) (in_use f i h) ∙ param_hit f i h c.loop-x.invariant (ap is_param (sym (in_use f i h)) ∙ sym c.is_param.ensures ∙ c.if-is_param.true)

pub unreachable-requires : goal.unreachable-requires
unreachable-requires c =
    let f = c.args.f.now in
    param_none f c.loop-x.x-index (omega (arith, length-take f.r f.runs)) (omega (arith, length-take f.r f.runs)) c.loop-x.invariant c.requires.1
