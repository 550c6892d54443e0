use borrow.Author.Tests.{tests}
use Rattle.std.proofs.Common.{rules}
use Rattle.std.proofs.lemmas.Iterator.{YieldsList-from_slice}
use Rattle.std.proofs.lemmas.Iterator.Consumers.{YieldsList-from_copied}
use Rattle.std.proofs.lemmas.Iterator.Search.{find_from_yields_List}
use Rattle.lines.specs.Grammar.{verbs, names, verb_of}
use Rattle.lines.proofs.Reading.{found}
use Rattle.lines.proofs.verb_of.Goals as goal

pub returns : goal.returns
unfolding verb_of
returns c =
    found _ _ (find_from_yields_List (names c.args.word.now) _ _ c.find.result c.find.ensures.ran (YieldsList-from_copied (YieldsList-from_slice verbs cc)) (λ x b q k. search (rules, tests)))
