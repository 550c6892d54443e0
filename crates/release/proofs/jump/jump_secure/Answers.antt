use Rattle.release.proofs.Releases.{jump_own, jump_away, released_settles, runs_in_lem, own_code_lem}
use Rattle.change.proofs.Settled.{still_settles}
use Rattle.wellformed.proofs.States.{well_state}
use Rattle.touch.proofs.Ready.{few_runs_in}
use Rattle.rules.specs.Tests.{own_code}
use Rattle.rules.specs.Plan.{nothing}
use Rattle.events.specs.declared.Answer.TheVariants as answer
use Rattle.state.proofs.Shaped.{state_shape}
use Rattle.state.specs.Face.{face_of}
use Rattle.geometry.specs.Geometry.{page_of}
use mathlib.Core.Bool.{true, false}
use mathlib.Core.Path.{◌≡◌, sym, ◌∙◌}
use Rattle.release.proofs.jump.jump_secure.Goals as goal

pub on_own_code-requires : goal.on_own_code-requires
on_own_code-requires c =
    let a = c.args in
    (c.requires.1.0, few_runs_in a.s (well_state a.s _ c.requires.0) a.k a.slot c.requires.1.0 c.requires.1.1.1)

pub returns-then-on_own_code : goal.returns-then-on_own_code
returns-then-on_own_code c = λ payload.
    let a = c.args in
    let o : own_code (face_of a.s) a.k (page_of a.address) ≡ true =
    sym (own_code_lem a.s a.k (page_of a.address) a.v a.slot c.requires.1.1.0 c.requires.1.1.1) ∙ sym c.on_own_code.ensures ∙ c.if-on_own_code.true in
    rw (jump_own (face_of a.s) a.address a.k o)
    (still_settles a.s (state_shape a.s _ c.well_formed.0).slots_long nothing answer.Done payload a.memory.now _ c.kept.ensures)

pub release-requires : goal.release-requires
release-requires c = runs_in_lem c.args.s _ c.requires.0 c.args.k c.args.slot c.requires.1.0 c.requires.1.1.1

pub returns : goal.returns
returns c = λ payload.
    let a = c.args in
    let o : own_code (face_of a.s) a.k (page_of a.address) ≡ false =
    sym (own_code_lem a.s a.k (page_of a.address) a.v a.slot c.requires.1.1.0 c.requires.1.1.1) ∙ sym c.on_own_code.ensures ∙ c.if-on_own_code.false in
    rw (jump_away (face_of a.s) a.address a.k o)
    (released_settles a.s a.k (state_shape a.s _ c.well_formed.0).slots_long c.requires.1.0 (answer.Terminated a.k) payload a.memory.now _ a.slot c.requires.1.1.1 (well_state a.s _ c.requires.0) _ c.release.ensures.0 c.release.ensures.1)
