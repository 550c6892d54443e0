use mathlib.Core.Path.{sym, ◌∙◌}
use native.Mathlib.Omega.{arith}
use lib.ListN.{get_or}
use borrow.Author.Tests.{eqb-true, eqb-false}
use Rattle.lists.proofs.All.{all_none}
use Rattle.numerals.specs.Decimal.{value_of, digit_at}
use Rattle.numerals.proofs.Reading.{number_stop, number_more, number_end, number_none, number_empty, number_zero, number_fits, more_some, more_none, value_more}
use Rattle.numerals.proofs.number.Goals as goal

pub returns-then-is_empty : goal.returns-then-is_empty
returns-then-is_empty c = number_empty c.args.text.now (eqb-true _ _ (sym c.if-is_empty.ensures))

pub returns-then-text : goal.returns-then-text
returns-then-text c = number_zero c.args.text.now c.if-text.true

pub loop-c-init : goal.loop-c-init
unfolding value_of
loop-c-init c = (all_none (digit_at c.args.text.now), omega arith, omega arith)

pub returns-in_err-value : goal.returns-in_err-value
returns-in_err-value c =
    let s = c.args.text.now in
    c.from_residual.ensures ∙ number_none s (number_stop s c.loop-c.c-index c.loop-c.value (omega arith) c.loop-c.invariant.1 (more_none c.loop-c.value (get_or s c.loop-c.c-index 0) (sym (c.in_err-value.was) ∙ c.more.ensures)))

pub loop-c-preserved : goal.loop-c-preserved
loop-c-preserved c =
    let s = c.args.text.now in
    let i = c.loop-c.c-index in
    let v = c.loop-c.value in
    let m = more_some v (get_or s i 0) _ (sym (c.in_ok-value.was) ∙ c.more.ensures) in
    (number_more s i v c.loop-c.invariant.0 m.0, m.1 ∙ value_more s i v c.loop-c.invariant.1, omega (arith, m.1, number_fits v (get_or s i 0) m.0))

pub returns : goal.returns
returns c =
    let s = c.args.text.now in
    number_end s c.loop-c.c-index c.loop-c.value c.loop-c.auto.c-index-end c.loop-c-test.false (eqb-false _ _ (sym c.if-is_empty.ensures)) c.if-text.false c.loop-c.invariant.0 c.loop-c.invariant.1 c.loop-c.invariant.2
