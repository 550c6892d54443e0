use Rattle.extend.proofs.Extending.{extend_10, extend_4, extend_5, extend_on, source_in, source_same, extended_settles}
use Rattle.change.proofs.Settled.{still_settles}
use Rattle.wellformed.proofs.States.{well_long}
use Rattle.rules.specs.Plan.{nothing}
use Rattle.events.specs.declared.Answer.TheVariants as answer
use Rattle.events.specs.declared.Refusal.TheVariants.{OutOfRange, NotReached, NoSuchPcr}
use Rattle.state.proofs.Shaped.{state_shape}
use Rattle.state.specs.Face.{face_of}
use Rattle.sha_1.specs.Sha1.{sha1}
use Rattle.memory.specs.Source.{chosen_of, InRange}
use Rattle.geometry.specs.Geometry.{pcr_count}
use lib.ListN.{length}
use Prim.Native.Nat.{ℕ}
use borrow.Author.Tests.{lt-ltb, le-ltb}
use mathlib.Core.Path.{sym, ap, subst, ◌∙◌}
use Rattle.extend.proofs.extend.extend.Goals as goal

pub returns-then-index-ge-PCRS : goal.returns-then-index-ge-PCRS
returns-then-index-ge-PCRS c =
    let a = c.args in
    rw (extend_10 (face_of a.s) a.k (length a.payload.now) a.index a.source a.address a.n (le-ltb a.index pcr_count c.if-index-ge-PCRS.true))
    (still_settles a.s (state_shape a.s _ c.well_formed.0).slots_long nothing (answer.Refused NoSuchPcr) a.payload.now a.memory.now _ c.kept.ensures)

pub returns-then-not-source_right : goal.returns-then-not-source_right
returns-then-not-source_right c =
    let a = c.args in
    rw (extend_4 (face_of a.s) a.k (length a.payload.now) a.index a.source a.address a.n (lt-ltb a.index pcr_count c.if-index-ge-PCRS.false) (sym c.source_right.ensures ∙ c.if-not-source_right.true))
    (still_settles a.s (state_shape a.s _ c.well_formed.0).slots_long nothing (answer.Refused OutOfRange) a.payload.now a.memory.now _ c.kept-then-not-source_right.ensures)

pub returns-then-not-source_reached : goal.returns-then-not-source_reached
returns-then-not-source_reached c =
    let a = c.args in
    rw (extend_5 (face_of a.s) a.k (length a.payload.now) a.index a.source a.address a.n (lt-ltb a.index pcr_count c.if-index-ge-PCRS.false) (sym c.source_right.ensures ∙ c.if-not-source_right.false) (sym c.source_reached.ensures ∙ c.if-not-source_reached.true))
    (still_settles a.s (state_shape a.s _ c.well_formed.0).slots_long nothing (answer.Refused NotReached) a.payload.now a.memory.now _ c.kept-then-not-source_reached.ensures)

pub chosen-part-requires : goal.chosen-part-requires
chosen-part-requires c =
    let a = c.args in
    subst (λ (p : ℕ). InRange a.memory.now a.source p a.n) (sym c.kept_as-from.ensures)
    (source_in (face_of a.s) a.memory.now a.source (length a.payload.now) a.address a.n (well_long a.s _ c.requires.0) (sym c.source_right.ensures ∙ c.if-not-source_right.false))

pub returns : goal.returns
returns c =
    let a = c.args in
    let h = c.hash-digest.ensures ∙ ap sha1 (c.chosen-part.ensures
    ∙ ap (λ (p : ℕ). chosen_of a.payload.now a.memory.now a.source p a.n) c.kept_as-from.ensures
    ∙ source_same a.payload.now a.memory.now a.source a.address a.n) in
    rw (extend_on (face_of a.s) a.k (length a.payload.now) a.index a.source a.address a.n (lt-ltb a.index pcr_count c.if-index-ge-PCRS.false) (sym c.source_right.ensures ∙ c.if-not-source_right.false) (sym c.source_reached.ensures ∙ c.if-not-source_reached.false))
    (extended_settles a.s (state_shape a.s _ c.well_formed.0).slots_long a.k c.requires.1.0 a.index c.if-index-ge-PCRS.false a.source a.address a.n a.payload.now a.memory.now c.hash-digest.result _ h c.extending.ensures)
