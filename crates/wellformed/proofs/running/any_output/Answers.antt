use mathlib.Core.Path.{◌∙◌}
use native.Mathlib.Omega.{arith}
use lib.Dec.{eqb}
use lib.ListN.{take, length-take}
use Rattle.std.proofs.Common.{rules, tests}
use Rattle.std.proofs.lemmas.Iterator.{YieldsList-from_slice}
use Rattle.std.proofs.lemmas.Iterator.Search.{any_from_yields_List}
use Rattle.lists.proofs.Listed.{any_listed}
use Rattle.fields.specs.declared.Entry.{Entry}
use Rattle.fields.specs.Fields.{no_entry}
use Rattle.wellformed.proofs.running.any_output.Goals as goal

pub returns : goal.returns
returns c =
    let f = c.args.f.now in
    any_from_yields_List (λ (x : Entry). eqb x.output c.args.n) _ _ _ c.any.ensures.ran (YieldsList-from_slice (take f.e f.entries) cc) (λ x b q k. search (rules, tests))
    ∙ any_listed (λ (x : Entry). eqb x.output c.args.n) f.entries no_entry f.e (omega (arith, length-take f.e f.entries))
