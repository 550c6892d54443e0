use mathlib.Core.Path.{sym, ap, ◌∙◌}
use borrow.Author.Tests.{lt-leb, le-leb}
use Rattle.lists.proofs.Logic.{pick_true, pick_false}
use Rattle.numerals.specs.Decimal.{number_of}
use Rattle.lines.specs.Grammar.{argument_at}
use Rattle.lines.proofs.argument_at.Goals as goal

pub returns-then-n-k : goal.returns-then-n-k
unfolding argument_at
returns-then-n-k c = sym (pick_false _ _ _ (lt-leb _ _ c.if-n-k.true))

pub returns : goal.returns
unfolding argument_at
returns c =
    c.number.ensures ∙ (ap number_of c.field_of.ensures ∙ sym (pick_true _ _ _ (le-leb _ _ c.if-n-k.false)))
