use Rattle.call.proofs.Calls.{open_by, in_4, out_4, in_5, out_5, enter_on, entered_settles, param_ready, param_same, param_in}
use Rattle.switch.proofs.Kept.{kept_fits, kept_part}
use Rattle.change.proofs.Settled.{still_settles}
use Rattle.wellformed.proofs.States.{well_state, well_long}
use Rattle.rules.specs.Plan.{nothing}
use Rattle.events.specs.declared.Answer.TheVariants as answer
use Rattle.events.specs.declared.Refusal.TheVariants.{OutOfRange, NotReached}
use Rattle.state.proofs.Shaped.{state_shape}
use Rattle.state.specs.Face.{face_of}
use Rattle.lists.specs.Bytes.{part}
use lib.Seq.{sets}
use Rattle.geometry.specs.Geometry.{start_of}
use mathlib.Core.Path.{sym, ap, ◌∙◌}
use native.Mathlib.Omega.{arith}
use Rattle.call.proofs.call.call_entry.Goals as goal

pub returns-then-not-in_range : goal.returns-then-not-in_range
returns-then-not-in_range c = λ payload.
    let a = c.args in
    rw (in_4 (face_of a.s) a.found.k a.x a.input a.output (sym c.in_range.ensures ∙ c.if-not-in_range.true))
    (still_settles a.s (state_shape a.s _ c.well_formed.0).slots_long nothing (answer.Refused OutOfRange) payload a.memory.now _ c.kept.ensures)

pub returns-then-not-in_range-2 : goal.returns-then-not-in_range-2
returns-then-not-in_range-2 c = λ payload.
    let a = c.args in
    rw (out_4 (face_of a.s) a.found.k a.x a.input a.output (sym c.in_range.ensures ∙ c.if-not-in_range.false) (sym c.in_range-2.ensures ∙ c.if-not-in_range-2.true))
    (still_settles a.s (state_shape a.s _ c.well_formed.0).slots_long nothing (answer.Refused OutOfRange) payload a.memory.now _ c.kept-then-not-in_range-2.ensures)

pub returns-then-not-on_open : goal.returns-then-not-on_open
returns-then-not-on_open c = λ payload.
    let a = c.args in
    rw (in_5 (face_of a.s) a.found.k a.x a.input a.output (sym c.in_range.ensures ∙ c.if-not-in_range.false) (sym c.in_range-2.ensures ∙ c.if-not-in_range-2.false) (open_by a.s a.input a.x.input a.from c.requires.1.0.0 ∙ sym c.on_open.ensures ∙ c.if-not-on_open.true))
    (still_settles a.s (state_shape a.s _ c.well_formed.0).slots_long nothing (answer.Refused NotReached) payload a.memory.now _ c.kept-then-not-on_open.ensures)

pub returns-then-not-on_open-2 : goal.returns-then-not-on_open-2
returns-then-not-on_open-2 c = λ payload.
    let a = c.args in
    rw (out_5 (face_of a.s) a.found.k a.x a.input a.output (sym c.in_range.ensures ∙ c.if-not-in_range.false) (sym c.in_range-2.ensures ∙ c.if-not-in_range-2.false) (open_by a.s a.input a.x.input a.from c.requires.1.0.0 ∙ sym c.on_open.ensures ∙ c.if-not-on_open.false) (open_by a.s a.output a.x.output a.to c.requires.1.0.1 ∙ sym c.on_open-2.ensures ∙ c.if-not-on_open-2.true))
    (still_settles a.s (state_shape a.s _ c.well_formed.0).slots_long nothing (answer.Refused NotReached) payload a.memory.now _ c.kept-then-not-on_open-2.ensures)

pub param_start-requires : goal.param_start-requires
param_start-requires c =
    let a = c.args in
    let w = c.requires in
    param_ready a.s (well_state a.s _ w.0) a.found.k w.1.1.0.0 w.1.1.1.0 a.found.slot w.1.1.0.1

pub move_bytes-requires : goal.move_bytes-requires
move_bytes-requires c =
    let a = c.args in
    let w = c.requires in
    let h = well_state a.s _ w.0 in
    let f = kept_fits a.s.pages a.input a.x.input _ (well_long a.s _ w.0) (sym c.in_range.ensures ∙ c.if-not-in_range.false) in
    let e = c.param_start.ensures ∙ ap start_of (param_same a.s h a.found.k w.1.1.0.0 w.1.1.1.0 a.found.slot w.1.1.0.1) in
    (omega (arith, c.kept_as.ensures, f), (omega (arith, e, param_in a.s h a.found.k w.1.1.0.0 w.1.1.1.0, well_long a.s _ w.0, w.1.1.1.1), omega (arith, w.1.1.1.1)))

pub returns : goal.returns
returns c = λ payload.
    let a = c.args in
    let w = c.requires in
    let h = well_state a.s _ w.0 in
    let m = a.memory.now in
    let e = c.move_bytes.ensures
    ∙ (λ i. sets m ((c.param_start.ensures ∙ ap start_of (param_same a.s h a.found.k w.1.1.0.0 w.1.1.1.0 a.found.slot w.1.1.0.1)) i) (part m (c.kept_as.ensures i) a.x.input))
    ∙ ap (sets m _) (kept_part m a.input a.x.input) in
    rw (enter_on (face_of a.s) a.found.k a.x a.input a.output (sym c.in_range.ensures ∙ c.if-not-in_range.false) (sym c.in_range-2.ensures ∙ c.if-not-in_range-2.false) (open_by a.s a.input a.x.input a.from c.requires.1.0.0 ∙ sym c.on_open.ensures ∙ c.if-not-on_open.false) (open_by a.s a.output a.x.output a.to c.requires.1.0.1 ∙ sym c.on_open-2.ensures ∙ c.if-not-on_open-2.false))
    (entered_settles a.s (state_shape a.s _ c.well_formed.0).slots_long a.found.k a.x a.input a.output payload m _ c.monitor_enter.new.running _ c.monitor_enter.ensures c.turned.ensures e)
