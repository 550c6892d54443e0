use mathlib.Core.Path.{sym, ap, ◌∙◌}
use mathlib.Core.List.{List}
use Prim.Native.Nat.{ℕ, ◌+◌}
use Rattle.std.proofs.lemmas.List.{take_all}
use Rattle.std.specs.List.{count_by}
use Rattle.std.proofs.lemmas.List.Splits.{length-slice_split}
use Rattle.numerals.specs.Place.{is_char}
use Rattle.lines.specs.Fields.{space, fields, field_count}
use Rattle.lines.proofs.fields.field_count.Goals as goal

-- one field more than spaces
pub returns : goal.returns
unfolding fields field_count
returns c =
    let l = c.args.text.now in
    c.loop-c.invariant.0
    ∙ (ap (λ (t : List ℕ). count_by (is_char space) t + 1) (take_all c.loop-c.c-index l c.loop-c-test.false) ∙ sym (length-slice_split (is_char space) l))
