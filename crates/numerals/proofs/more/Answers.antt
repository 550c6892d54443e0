use mathlib.Core.Path.{sym, ◌∙◌}
use mathlib.Core.Logic.{inl, inr}
use native.Mathlib.Omega.{arith}
use Rattle.numerals.proofs.Reading.{digit_some, digit_none, more_no, more_sum}
use Rattle.numerals.proofs.more.Goals as goal

pub returns-in_err-digit : goal.returns-in_err-digit
returns-in_err-digit c =
    c.from_residual.ensures ∙ more_no c.args.value c.args.c (inl (digit_none c.args.c (sym (c.in_err-digit.was) ∙ c.digit_value.ensures)))

pub returns-in_err-checked_mul : goal.returns-in_err-checked_mul
returns-in_err-checked_mul c =
    c.from_residual-in_err-checked_mul.ensures ∙ more_no c.args.value c.args.c (inr (omega (arith, c.in_err-checked_mul.ensures)))

pub returns : goal.returns
returns c =
    let d = digit_some c.args.c _ (sym c.in_ok-digit.was ∙ c.digit_value.ensures) in
    more_sum c.args.value c.args.c _ _ _ d.0 (c.from.ensures ∙ d.1) c.in_ok-checked_mul.ensures.1 c.checked_add.ensures
