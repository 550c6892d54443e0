use Prim.Native.Nat.{◌+◌, ◌-◌, ◌≤◌, ◌<◌}
use native.Mathlib.Omega.{arith}
use mathlib.Core.Path.{◌≡◌, sym}
use mathlib.Core.Bool.{◌&&◌}
use lib.Dec.{eqb}
use lib.ListN.{drop, length-take, length-drop}
use borrow.Author.Tests.{lt-ltb, le-ltb}
use Rattle.lists.proofs.All.{all_of, all_end}
use Rattle.fields.specs.Fields.{no_run, no_entry, run_at, entry_at}
use Rattle.fields.specs.Rules.{run_free_at, entry_free_at, unused_zero}
use Rattle.keeps.proofs.Passes.{left_at, zeros_step}
use Rattle.keeps.proofs.unused_zero.Goals as goal

pub loop-run-init : goal.loop-run-init
loop-run-init c =
    let f = c.args.f.now in
    let e : f.r + 0 ≡ f.r = omega arith in
    rw e (sym (all_of (run_free_at f) f.r (λ i h. rw (lt-ltb i f.r h))))

pub loop-run-preserved : goal.loop-run-preserved
loop-run-preserved c =
    let f = c.args.f.now in
    let j = c.loop-run.run-index in
    let x = run_at f (f.r + j) in
    let h : j < 4 - f.r = omega (arith, length-take (4 - f.r) (drop f.r f.runs)) in
    let n : f.r + (j + 1) ≡ f.r + j + 1 = omega arith in
    let b : f.r ≤ f.r + j = omega arith in
    let e : eqb x.kind 0 && (eqb x.count 0 && eqb x.first 0) ≡ run_free_at f (f.r + j) = rw (le-ltb (f.r + j) f.r b) in
    rw (left_at f.runs f.r (4 - f.r) j no_run h, n)
    (zeros_step (run_free_at f) (f.r + j) c.loop-run.kind c.loop-run.count c.loop-run.first x.kind x.count x.first c.loop-run.invariant e)

pub loop-entry-init : goal.loop-entry-init
loop-entry-init c =
    let f = c.args.f.now in
    let e : f.e + 0 ≡ f.e = omega arith in
    rw e (sym (all_of (entry_free_at f) f.e (λ i h. rw (lt-ltb i f.e h))))

pub loop-entry-preserved : goal.loop-entry-preserved
loop-entry-preserved c =
    let f = c.args.f.now in
    let j = c.loop-entry.entry-index in
    let x = entry_at f (f.e + j) in
    let h : j < 8 - f.e = omega (arith, length-take (8 - f.e) (drop f.e f.entries)) in
    let n : f.e + (j + 1) ≡ f.e + j + 1 = omega arith in
    let b : f.e ≤ f.e + j = omega arith in
    let e : eqb x.address 0 && (eqb x.input 0 && eqb x.output 0) ≡ entry_free_at f (f.e + j) = rw (le-ltb (f.e + j) f.e b) in
    rw (left_at f.entries f.e (8 - f.e) j no_entry h, n)
    (zeros_step (entry_free_at f) (f.e + j) c.loop-entry.address c.loop-entry.input c.loop-entry.output x.address x.input x.output c.loop-entry.invariant e)

pub returns : goal.returns
unfolding unused_zero
returns c =
    let f = c.args.f.now in
    let l = length-take (4 - f.r) (drop f.r f.runs) in
    let m = length-take (8 - f.e) (drop f.e f.entries) in
    rw (
      all_end (run_free_at f) 4 (f.r + c.loop-run.run-index) _ (omega (arith, l, length-drop f.r f.runs)) (omega (arith, l, length-drop f.r f.runs)) c.loop-run.invariant,
      all_end (entry_free_at f) 8 (f.e + c.loop-entry.entry-index) _ (omega (arith, m, length-drop f.e f.entries)) (omega (arith, m, length-drop f.e f.entries)) c.loop-entry.invariant,
    )
