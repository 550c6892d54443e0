use mathlib.Core.Path.{◌∙◌}
use native.Mathlib.Omega.{arith}
use lib.Dec.{leb}
use lib.ListN.{take, length-take}
use Rattle.std.proofs.Common.{rules, tests}
use Rattle.std.proofs.lemmas.Iterator.{YieldsList-from_slice}
use Rattle.std.proofs.lemmas.Iterator.Search.{all_from_yields_List}
use Rattle.lists.proofs.Listed.{all_listed}
use Rattle.fields.specs.declared.Run.{Run}
use Rattle.fields.specs.Fields.{no_run, end_of}
use Rattle.fields.specs.Pages.{pages_under}
use Rattle.enroll.proofs.free.all_under.Goals as goal

pub returns : goal.returns
unfolding pages_under
returns c =
    let f = c.args.f.now in
    all_from_yields_List (λ (x : Run). leb (end_of x) c.args.pages) _ _ _ c.all.ensures.ran (YieldsList-from_slice (take f.r f.runs) cc) (λ x b q k. search (rules, tests))
    ∙ all_listed (λ (x : Run). leb (end_of x) c.args.pages) f.runs no_run f.r (omega (arith, length-take f.r f.runs))
