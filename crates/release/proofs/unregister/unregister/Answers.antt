use Rattle.release.proofs.Releases.{unregister_8, unregister_on, released_settles, runs_in_lem}
use Rattle.wellformed.proofs.States.{well_state}
use Rattle.touch.proofs.Ready.{card_is}
use Rattle.change.proofs.Settled.{still_settles}
use Rattle.rules.specs.Plan.{nothing}
use Rattle.events.specs.declared.Answer.TheVariants as answer
use Rattle.events.specs.declared.Refusal.TheVariants.{NotFound}
use Rattle.state.proofs.Shaped.{state_shape}
use Rattle.state.specs.Face.{face_of}
use Rattle.geometry.specs.Geometry.{slot_count}
use borrow.Author.Tests.{lt-ltb, le-ltb}
use mathlib.Core.Path.{sym, ◌∙◌}
use Rattle.release.proofs.unregister.unregister.Goals as goal

pub returns-then-k-ge-SLOTS : goal.returns-then-k-ge-SLOTS
returns-then-k-ge-SLOTS c = λ payload.
    let a = c.args in
    rw (unregister_8 (face_of a.s) a.mark a.k (rw (le-ltb a.k slot_count c.if-k-ge-SLOTS.true)))
    (still_settles a.s (state_shape a.s _ c.well_formed.0).slots_long nothing (answer.Refused NotFound) payload a.memory.now _ c.kept.ensures)

pub release-requires : goal.release-requires
release-requires c =
    let l = c.if-k-ge-SLOTS.false in
    runs_in_lem c.args.s _ c.requires.0 c.args.k c.args.slot l (c.requires.1 l)

pub returns-then-is_under : goal.returns-then-is_under
returns-then-is_under c = λ payload.
    let a = c.args in
    let l = c.if-k-ge-SLOTS.false in
    let o = c.requires.1 l in
    rw (unregister_on (face_of a.s) a.mark a.k (rw (lt-ltb a.k slot_count l, ← card_is a.s a.k a.slot o) (sym c.is_under.ensures ∙ c.if-is_under.true)))
    (released_settles a.s a.k (state_shape a.s _ c.well_formed.0).slots_long l answer.Done payload a.memory.now _ a.slot o (well_state a.s _ c.requires.0) _ c.release.ensures.0 c.release.ensures.1)

pub returns : goal.returns
returns c = λ payload.
    let a = c.args in
    let l = c.if-k-ge-SLOTS.false in
    rw (unregister_8 (face_of a.s) a.mark a.k (rw (lt-ltb a.k slot_count l, ← card_is a.s a.k a.slot (c.requires.1 l)) (sym c.is_under.ensures ∙ c.if-is_under.false)))
    (still_settles a.s (state_shape a.s _ c.well_formed.0).slots_long nothing (answer.Refused NotFound) payload a.memory.now _ c.kept-2.ensures)
