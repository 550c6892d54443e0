use mathlib.Core.Path.{refl, sym, ◌∙◌}
use mathlib.Core.List.{[]}
use borrow.Author.Tests.{not-true, not-false}
use Rattle.lines.proofs.Laws.{hex_room}
use Rattle.lines.proofs.Reading.{Known, refused, told, no_long, no_verb, no_count, no_numbers, no_hex, yes_plain, yes_hex, hex_long}
use Rattle.lines.proofs.read_line.Goals as goal
use Rattle.lines.proofs.read_line.Goals.{After-shape_of-shape}

-- what is known once its verb is
known : (a : After-shape_of-shape) → Known a.args.line.now a.field_of.result.now a.in_ok-verb.verb a.shape_of-shape.result
known a = record { short = a.if-line-gt-LONGEST_LINE.false; word = a.field_of.ensures; verb = sym a.in_ok-verb.was ∙ a.verb_of.ensures; shape = a.shape_of-shape.ensures }

pub returns-then-line-gt-LONGEST_LINE : goal.returns-then-line-gt-LONGEST_LINE
returns-then-line-gt-LONGEST_LINE c = refused c.args.line.now _ _ refl (no_long c.args.line.now c.if-line-gt-LONGEST_LINE.true)

pub returns-in_err-verb : goal.returns-in_err-verb
returns-in_err-verb c =
    refused c.args.line.now _ _ c.from_residual.ensures (no_verb c.args.line.now _ c.if-line-gt-LONGEST_LINE.false c.field_of.ensures (sym c.in_err-verb.was ∙ c.verb_of.ensures))

pub returns-then-field_count-shape : goal.returns-then-field_count-shape
returns-then-field_count-shape c =
    refused c.args.line.now _ _ refl (no_count (known (goal.at.returns-then-field_count-shape c).After-shape_of-shape) _ c.field_count.ensures c.if-field_count-shape.true)

pub returns-in_err-arguments : goal.returns-in_err-arguments
returns-in_err-arguments c =
    refused c.args.line.now _ _ c.from_residual-in_err-arguments.ensures
    (no_numbers (known (goal.at.returns-in_err-arguments c).After-shape_of-shape) _ c.field_count.ensures c.if-field_count-shape.false (sym c.in_err-arguments.was ∙ c.arguments_of.ensures))

pub returns-then-not-shape : goal.returns-then-not-shape
returns-then-not-shape c =
    told c.args.line.now c.args.payload.now _ _ [] 0
    (yes_plain (known (goal.at.returns-then-not-shape c).After-shape_of-shape) _ c.field_count.ensures c.if-field_count-shape.false _ (sym c.in_ok-arguments.was ∙ c.arguments_of.ensures) (not-true _ c.if-not-shape.true))
    c.event_of-event.ensures refl

pub returns-then-not-is_hex : goal.returns-then-not-is_hex
returns-then-not-is_hex c =
    refused c.args.line.now _ _ refl
    (no_hex (known (goal.at.returns-then-not-is_hex c).After-shape_of-shape) _ c.field_count.ensures c.if-field_count-shape.false _ (sym c.in_ok-arguments.was ∙ c.arguments_of.ensures) c.field_of-text.result.now (not-false _ c.if-not-shape.false) c.field_of-text.ensures (sym c.is_hex.ensures ∙ c.if-not-is_hex.true))

pub put_hex-requires : goal.put_hex-requires
put_hex-requires c =
    (sym c.is_hex.ensures ∙ c.if-not-is_hex.false, hex_room _ _ _ c.field_of-text.ensures c.if-line-gt-LONGEST_LINE.false c.requires)

pub returns : goal.returns
returns c =
    let t = c.field_of-text.result.now in
    let y = told c.args.line.now c.args.payload.now _ _ _ _
    (yes_hex (known (goal.at.returns c).After-shape_of-shape) _ c.field_count.ensures c.if-field_count-shape.false _ (sym c.in_ok-arguments.was ∙ c.arguments_of.ensures) t (not-false _ c.if-not-shape.false) c.field_of-text.ensures (sym c.is_hex.ensures ∙ c.if-not-is_hex.false))
    c.event_of-event.ensures (hex_long t) in
    (y.0, c.put_hex.ensures ∙ y.1)
