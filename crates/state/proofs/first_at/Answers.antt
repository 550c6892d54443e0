use mathlib.Core.Path.{◌∙◌}
use lib.Dec.{eqb}
use Rattle.lists.proofs.Finds.{find_first}
use Rattle.fields.specs.declared.Entry.{Entry}
use Rattle.fields.specs.Fields.{entry_places, no_entry}
use Rattle.state.proofs.first_at.Goals as goal

pub returns : goal.returns
returns c =
    let a = c.args in
    c.among.ensures ∙ find_first (λ (x : Entry). eqb x.address a.address) no_entry a.e entry_places a.entries.now c.told-entries
