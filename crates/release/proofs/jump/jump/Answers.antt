use Rattle.change.proofs.Settled.{in_mode_lem}
use Rattle.release.proofs.Releases.{jump_still}
use Rattle.wellformed.proofs.States.{well_state}
use Rattle.touch.proofs.Ready.{mode_below}
use Rattle.rules.specs.Decide.{jump_legacy, jump_secure, by_mode}
use Rattle.state.proofs.Shaped.{state_shape}
use Rattle.state.specs.Face.{face_of}
use Rattle.release.proofs.jump.jump.Goals as goal

pub jump_secure-requires : goal.jump_secure-requires
jump_secure-requires c =
    let e = c.in-Secure.is in
    (c.requires.0, (mode_below c.args.s (well_state c.args.s _ c.requires.0) _ e, (c.requires.1.0, c.requires.1.1 _ e)))

pub returns-in-Legacy : goal.returns-in-Legacy
returns-in-Legacy c = λ payload.
    let a = c.args in
    in_mode_lem (λ m. by_mode m (jump_legacy (face_of a.s) a.address) (λ k. jump_secure (face_of a.s) k a.address)) payload a.s a.memory.now c.in-Legacy.is
    (jump_still a.s (state_shape a.s _ c.well_formed.0).slots_long a.address payload a.memory.now c.jump_legacy-answer.result c.jump_legacy-answer.ensures _ c.kept.ensures)

pub returns-in-Secure : goal.returns-in-Secure
returns-in-Secure c = λ payload.
    let a = c.args in
    in_mode_lem (λ m. by_mode m (jump_legacy (face_of a.s) a.address) (λ k. jump_secure (face_of a.s) k a.address)) payload a.s a.memory.now c.in-Secure.is
    (c.jump_secure.ensures payload)
