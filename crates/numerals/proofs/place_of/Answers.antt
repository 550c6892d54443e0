use Rattle.std.proofs.lemmas.Iterator.{YieldsList-from_slice}
use Rattle.std.proofs.lemmas.Iterator.Search.{position_from_yields_List}
use Rattle.std.proofs.Common.{rules}
use borrow.Author.Tests.{tests}
use mathlib.Core.Path.{◌∙◌}
use Rattle.numerals.specs.Place.{is_char, place_of}
use Rattle.numerals.proofs.Places.{first_or}
use Rattle.numerals.proofs.place_of.Goals as goal

pub returns : goal.returns
unfolding place_of
returns c =
    let x = c.args.text.now in
    c.unwrap_or.ensures
    ∙ first_or x c.args.c _ (position_from_yields_List (is_char c.args.c) _ _ c.position.result c.position.ensures.ran (YieldsList-from_slice x cc) (λ x b q k. search (rules, tests)))
