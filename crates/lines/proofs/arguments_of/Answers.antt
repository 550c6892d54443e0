use mathlib.Core.Path.{sym, ◌∙◌}
use Rattle.lines.specs.Grammar.{arguments_of}
use Rattle.lines.proofs.arguments_of.Goals as goal

pub returns-in_err-argument_at : goal.returns-in_err-argument_at
unfolding arguments_of
returns-in_err-argument_at c = c.from_residual.ensures ∙ rw (sym c.argument_at.ensures ∙ c.in_err-argument_at.was)

pub returns-in_err-argument_at-2 : goal.returns-in_err-argument_at-2
unfolding arguments_of
returns-in_err-argument_at-2 c = c.from_residual-in_err-argument_at-2.ensures ∙ rw (sym c.argument_at.ensures ∙ c.in_ok-argument_at.was, sym c.argument_at-2.ensures ∙ c.in_err-argument_at-2.was)

pub returns-in_err-argument_at-3 : goal.returns-in_err-argument_at-3
unfolding arguments_of
returns-in_err-argument_at-3 c = c.from_residual-in_err-argument_at-3.ensures ∙ rw (sym c.argument_at.ensures ∙ c.in_ok-argument_at.was, sym c.argument_at-2.ensures ∙ c.in_ok-argument_at-2.was, sym c.argument_at-3.ensures ∙ c.in_err-argument_at-3.was)

pub returns-in_err-argument_at-4 : goal.returns-in_err-argument_at-4
unfolding arguments_of
returns-in_err-argument_at-4 c = c.from_residual-in_err-argument_at-4.ensures ∙ rw (sym c.argument_at.ensures ∙ c.in_ok-argument_at.was, sym c.argument_at-2.ensures ∙ c.in_ok-argument_at-2.was, sym c.argument_at-3.ensures ∙ c.in_ok-argument_at-3.was, sym c.argument_at-4.ensures ∙ c.in_err-argument_at-4.was)

pub returns : goal.returns
unfolding arguments_of
returns c = rw (sym c.argument_at.ensures ∙ c.in_ok-argument_at.was, sym c.argument_at-2.ensures ∙ c.in_ok-argument_at-2.was, sym c.argument_at-3.ensures ∙ c.in_ok-argument_at-3.was, sym c.argument_at-4.ensures ∙ c.in_ok-argument_at-4.was)
