use mathlib.Core.Path.{◌≡◌, sym, ◌∙◌}
use mathlib.Core.Bool.{true, false}
use Rattle.state.specs.Face.{face_of}
use Rattle.wellformed.specs.WellFormed.{state_right, well_formed}
use Rattle.wellformed.proofs.Facts.{right_of}
use Rattle.wellformed.proofs.States.{state_face}
use Rattle.wellformed.proofs.well_formed.Goals as goal

pub returns-then-not-state_right : goal.returns-then-not-state_right
unfolding well_formed
returns-then-not-state_right c =
    let s = c.args.s in
    let t : state_right s ≡ false = sym c.state_right.ensures ∙ c.if-not-state_right.true in
    rw t

pub start_of-requires : goal.start_of-requires
start_of-requires c =
    let s = c.args.s in
    let t : state_right s ≡ true = sym c.state_right.ensures ∙ c.if-not-state_right.false in
    (right_of (face_of s) (state_face s t)).sizes.most

pub returns : goal.returns
unfolding well_formed
returns c =
    let b = c in
    let s = b.args.s in
    let t : state_right s ≡ true = sym b.state_right.ensures ∙ b.if-not-state_right.false in
    rw (t, c.start_of.ensures)
