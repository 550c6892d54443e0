use Rattle.call.proofs.Calls.{returned_settles, output_small, out_fits, param_ready, param_same, param_in}
use Rattle.events.specs.declared.Answer.TheVariants as answer
use Rattle.state.specs.declared.Running.{Running}
use Rattle.change.specs.declared.Turn.TheVariants.{Leaves}
use Rattle.change.specs.Turns.{turn_of}
use Rattle.wellformed.proofs.States.{well_state, well_long}
use Rattle.touch.proofs.Ready.{runs_in_lem}
use Rattle.state.proofs.Shaped.{state_shape}
use Rattle.lists.specs.Bytes.{part}
use lib.Seq.{sets}
use Prim.Native.Nat.{◌+◌}
use mathlib.Core.Path.{ap, ◌∙◌}
use Rattle.geometry.specs.Geometry.{start_of}
use native.Mathlib.Omega.{arith}
use Rattle.call.proofs.return_.return_.Goals as goal

pub param_start-from-requires : goal.param_start-from-requires
param_start-from-requires c =
    let a = c.args in
    let h = well_state a.s _ c.requires.0 in
    let q = runs_in_lem a.s h a.k c.requires.1.0 in
    param_ready a.s h a.k q.below q.registered a.slot c.requires.1.1

pub move_bytes-requires : goal.move_bytes-requires
move_bytes-requires c =
    let s = c.args.s in
    let h = well_state s _ c.requires.0 in
    let q = runs_in_lem s h c.args.k c.requires.1.0 in
    let e = c.param_start-from.ensures ∙ ap start_of (param_same s h c.args.k q.below q.registered c.args.slot c.requires.1.1) in
    let o = output_small s h c.args.k c.requires.1.0 in
    rw c.monitor_leave-was.ensures.0
    (omega (arith, e, param_in s h c.args.k q.below q.registered, well_long s _ c.requires.0, o), (out_fits s _ c.args.k c.requires.0 c.requires.1.0, omega (arith, o)))

pub returns : goal.returns
returns c = λ payload.
    let a = c.args in
    let s = a.s in
    let h = well_state s _ c.requires.0 in
    let r = runs_in_lem s h a.k c.requires.1.0 in
    let m = a.memory.now in
    let q = c.monitor_leave-was.ensures in
    let e = (rw (q.0) at c.move_bytes.ensures) ∙ (λ i. sets m s.running.out (part m ((c.param_start-from.ensures ∙ ap start_of (param_same s h a.k r.below r.registered a.slot c.requires.1.1)) i + 2048) s.running.length)) in
    returned_settles s (state_shape s _ c.well_formed.0).slots_long a.k payload m _ _ ((rw (q.0) at c.turned.ensures) ∙ ap (λ (y : Running). turn_of (answer.Left s.running.length) (Leaves y)) q.1) e
