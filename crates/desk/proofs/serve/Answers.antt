use mathlib.Core.Path.{sym, ap, ◌∙◌}
use mathlib.Core.List.{List}
use Prim.Native.Nat.{ℕ, ◌+◌, ◌-◌}
use lib.ListN.{length, take}
use Rattle.gather.specs.Lines.{line_end}
use Rattle.numerals.proofs.Places.{place_le}
use Rattle.desk.proofs.Served.{end_in, stops, goes, turns, said_few, said_long}
use lib.Seq.{length-take-le}
use borrow.Author.Rules.{part_to_end}
use borrow.Rule.Slice.PartMut.{mid_of}
use Rattle.desk.specs.Served.{standing}
use native.Mathlib.Omega.{arith}
use Rattle.desk.proofs.serve.Goals as goal

pub overflow_add-used : goal.overflow_add-used
overflow_add-used c =
    let g = end_in c.args.text.now c.loop-end.at c.loop-end.end c.loop-end.invariant.4 c.loop-end.invariant.5 in
    let w = goes c.loop-end.end (length c.args.text.now) (length c.loop-end.out) c.loop-end.used c.loop-end-test.true in
    omega (arith, said_few (length (mid_of c.loop-end.used (length c.loop-end.out - c.loop-end.used) c.loop-end.out)) c.say-used.result c.hear-stepped.ensures c.say-used.ensures.1)

pub overflow_add-end : goal.overflow_add-end
overflow_add-end c =
    let g = end_in c.args.text.now c.loop-end.at c.loop-end.end c.loop-end.invariant.4 c.loop-end.invariant.5 in
    let w = goes c.loop-end.end (length c.args.text.now) (length c.loop-end.out) c.loop-end.used c.loop-end-test.true in
    omega (arith, place_le _ 10 c.line_end.result c.line_end.ensures)

pub loop-end-preserved : goal.loop-end-preserved
loop-end-preserved c =
    let g = end_in c.args.text.now c.loop-end.at c.loop-end.end c.loop-end.invariant.4 c.loop-end.invariant.5 in
    let w = goes c.loop-end.end (length c.args.text.now) (length c.loop-end.out) c.loop-end.used c.loop-end-test.true in
    let a = c.loop-end.at in
    let e = c.loop-end.end in
    let t = c.args.text.now in
    let o = said_long c.loop-end.out _ c.loop-end.used c.hear-stepped.ensures c.say-used.ensures.0 in (
      c.hear-stepped.auto.payload ∙ c.loop-end.invariant.0,
      c.hear-stepped.auto.memory ∙ c.loop-end.invariant.1,
      c.hear-stepped.auto.buffer ∙ c.loop-end.invariant.2,
      o ∙ c.loop-end.invariant.3,
      omega arith,
      ap (λ (j : ℕ). e + 1 + j) (c.line_end.ensures ∙ ap (λ (r : List ℕ). line_end r) (part_to_end t (e + 1))),
      omega (arith, said_few (length (mid_of c.loop-end.used (length c.loop-end.out - c.loop-end.used) c.loop-end.out)) c.say-used.result c.hear-stepped.ensures c.say-used.ensures.1),
      turns (length c.args.out.now) t a e c.loop-end.invariant.4 c.loop-end.invariant.5 w.0 c.loop-end.state _ c.loop-end.memory _ c.loop-end.buffer _ c.loop-end.out _ c.loop-end.used _ _
          c.loop-end.invariant.3 c.loop-end.invariant.6 w.1 c.hear-stepped.ensures c.say-used.ensures.0 c.say-used.ensures.1 ∙ c.loop-end.invariant.7,
    )

pub returns-clause-out_after : goal.returns-clause-out_after
returns-clause-out_after c =
    sym (stops (length c.args.out.now) c.args.text.now c.loop-end.at c.loop-end.end c.loop-end.invariant.4 c.loop-end.invariant.5
    (standing c.loop-end.state c.loop-end.memory c.loop-end.buffer (take c.loop-end.used c.loop-end.out) c.loop-end.at) (length c.loop-end.out) c.loop-end.used
    c.loop-end.invariant.3 (length-take-le c.loop-end.used c.loop-end.out c.loop-end.invariant.6) c.loop-end.invariant.6 c.loop-end-test.false)
    ∙ c.loop-end.invariant.7
