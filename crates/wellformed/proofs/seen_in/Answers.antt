use native.Mathlib.Omega.{arith}
use mathlib.Core.Path.{sym, ap, ◌∙◌}
use Rattle.std.specs.Prelude.{Some}
use Rattle.wellformed.specs.Seen.{state_in}
use Rattle.wellformed.proofs.Sights.{seen_none, seen_all}
use Rattle.wellformed.proofs.Whole.{begun_wrong, begun_right, tried_wrong, tried_right, all_gone, gone_few, gone_end}
use Rattle.wellformed.proofs.seen_in.Goals as goal

pub returns-in_err-top : goal.returns-in_err-top
returns-in_err-top c =
    let a = c.args in
    let s = state_in a.state.now in
    c.from_residual.ensures ∙ seen_none s a.n a.page a.other (begun_wrong s (sym c.in_err-top.was ∙ c.begun.ensures.0))

pub loop-k-init : goal.loop-k-init
loop-k-init c = begun_right (state_in c.args.state.now) _ _ (sym c.in_ok-top.was ∙ c.begun.ensures.0) c.begun.ensures.1

pub returns-then-not-tried : goal.returns-then-not-tried
returns-then-not-tried c =
    let a = c.args in
    let s = state_in a.state.now in
    let l = c.loop-k in
    seen_none s a.n a.page a.other (tried_wrong s l.k l.t _ l.invariant.0 l.invariant.1 (omega arith) (sym c.if-not-tried.true ∙ c.tried.ensures.0))

pub loop-k-preserved : goal.loop-k-preserved
loop-k-preserved c =
    let l = c.loop-k in
    (l.invariant.0, tried_right (state_in c.args.state.now) l.k l.t _ l.invariant.0 l.invariant.1 _ (sym c.if-not-tried.false ∙ c.tried.ensures.0) c.tried.ensures.1)

pub compared-requires : goal.compared-requires
compared-requires c =
    let s = state_in c.args.state.now in
    let g = all_gone s _ _ (omega arith) c.loop-k-test.false c.loop-k.invariant.1 in
    (g.sizes.most, gone_few s _ g)

pub returns-then-compared : goal.returns-then-compared
returns-then-compared c =
    let a = c.args in
    let s = state_in a.state.now in
    let g = all_gone s _ _ (omega arith) c.loop-k-test.false c.loop-k.invariant.1 in
    ap Some c.handed.ensures ∙ seen_all s a.n a.page a.other (sym (c.if-compared.ensures ∙ gone_end s _ g))

pub returns : goal.returns
returns c =
    let a = c.args in
    let s = state_in a.state.now in
    let g = all_gone s _ _ (omega arith) c.loop-k-test.false c.loop-k.invariant.1 in
    seen_none s a.n a.page a.other (sym (c.if-compared.ensures ∙ gone_end s _ g))
