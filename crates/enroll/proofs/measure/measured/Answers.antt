use Prim.Native.Nat.{◌*◌, ◌<◌}
use native.Mathlib.Omega.{arith}
use mathlib.Core.List.{[]}
use mathlib.Core.Path.{refl, sym, subst, ◌∙◌}
use lib.ListN.{length-take}
use lib.Seq.{get_or-take}
use Rattle.lists.specs.Below.{joined}
use Rattle.lists.specs.Bytes.{gather}
use Rattle.geometry.specs.Geometry.{page_size}
use Rattle.fields.specs.Fields.{no_run, run_at}
use Rattle.fields.specs.Pages.{run_pages, pages_of}
use Rattle.sha_1.specs.declared.Hashing.{Hashing}
use Rattle.sha_1.specs.Parts.{Holds}
use Rattle.sha_1.proofs.Holds.{holds_start}
use Rattle.enroll.proofs.Gathered.{gather_turn, gather_end, taken_run, taken_cut}
use Rattle.enroll.proofs.measure.measured.Goals as goal

pub loop-x-init : goal.loop-x-init
unfolding joined gather
loop-x-init c = subst (λ (x : Hashing). Holds x []) (sym c.start-h.ensures) holds_start

pub loop-x-preserved : goal.loop-x-preserved
loop-x-preserved c =
    let f = c.args.f.now in
    let x = run_at f c.loop-x.x-index in
    let h : c.loop-x.x-index < f.r = omega (arith, length-take f.r f.runs) in
    let e = get_or-take f.r f.runs c.loop-x.x-index no_run h in
    let l = c.requires.fits c.loop-x.x-index h in
    gather_turn page_size c.args.memory.now (run_pages f) c.loop-x.x-index c.loop-x.h _ c.taken-h.ensures c.loop-x.invariant
    (rw e (taken_run c.args.memory.now x.first x.count (x.first * 4096) _ refl refl))
    (rw e (taken_cut c.args.memory.now x.first x.count (x.first * 4096) _ refl refl (omega arith)))

pub returns : goal.returns
unfolding pages_of
returns c =
    let f = c.args.f.now in
    c.finished.ensures ∙ gather_end page_size c.args.memory.now (run_pages f) c.loop-x.h f.r c.loop-x.x-index _ c.loop-x.invariant (omega (arith, length-take f.r f.runs)) refl
