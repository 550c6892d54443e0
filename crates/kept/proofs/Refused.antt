-- Refusals keep all, and have document 01's numbers.
use Prim.Native.Nat.{ℕ, ◌≤◌}
use native.Mathlib.Omega.{arith}
use mathlib.Core.Path.{◌≡◌, refl}
use mathlib.Core.Logic.{◌≢◌}
use mathlib.Core.List.{List}
use lib.ListN.{length}
use Rattle.manifest.specs.Reader.{read_manifest}
use Rattle.state.specs.declared.Mode.{Mode}
use Rattle.state.specs.declared.State.{State}
use Rattle.state.specs.Face.{Face, face_of, pcrs_of}
use Rattle.state.proofs.Faces.{state_back}
use Rattle.wellformed.specs.WellFormed.{well_formed}
use Rattle.events.specs.declared.Event.{Event}
use Rattle.events.specs.declared.Answer.TheVariants as answer
use Rattle.events.specs.Refusals.{number_of}
use Rattle.events.specs.Answers.{told_by}
use Rattle.events.proofs.Numbers.{named}
use Rattle.rules.specs.Plan.{Plan}
use Rattle.rules.specs.Act.{act, plan_of, step}
use Rattle.kept.specs.Refusals.{AsGiven, RefusalsKeep, RefusalsNamed}
use Rattle.kept.proofs.Outcome.{Outcome, refused, accepted, Accepts, accepts_zero, outcome}

-- what is planned on a state
pub planned : (s : State) (size : ℕ) (payload : List ℕ) (room : ℕ) (e : Event) → Outcome (face_of s) s.mode room e (plan_of s size room payload e)
planned s size payload room e = outcome (face_of s) room (well_formed s size) (length payload) (read_manifest payload) e

-- a plan that tells 0 is accepted
pub zero_accepts : {f : Face} {m : Mode} {room : ℕ} {e : Event} (p : Plan) → Outcome f m room e p → (told_by p.answer).number ≡ 0 → Accepts p.answer
zero_accepts p (refused r a q) h = let z : number_of r ≡ 0 = rw q at h in absurd (omega (arith, named r))
zero_accepts p (accepted t _ _ _ _) h = t

pub refusals_keep : RefusalsKeep
unfolding step
refusals_keep s m e payload buffer l h = go (plan_of s (length m) (length buffer) payload e) h (planned s (length m) payload (length buffer) e)
  where
    go : (p : Plan) → (told_by p.answer).number ≢ 0 → Outcome (face_of s) s.mode (length buffer) e p → AsGiven s m buffer (act p payload buffer (pcrs_of s) m)
    go p h (refused r a q) = rw q (record { state = state_back s l; memory = refl; buffer = refl })
    go p h (accepted n _ _ _ _) = absurd (h (accepts_zero p.answer n))

pub refusals_named : RefusalsNamed
unfolding step
refusals_named s m e payload buffer r h = go (plan_of s (length m) (length buffer) payload e) h (planned s (length m) payload (length buffer) e)
  where
    go : (p : Plan) → p.answer ≡ answer.Refused r → Outcome (face_of s) s.mode (length buffer) e p → (1 ≤ number_of r) × (number_of r ≤ 10)
    go p h (refused k a q) =
        let z : p.answer ≡ answer.Refused k = rw q in
        let w : number_of k ≡ number_of r = cc in
        (named r, omega arith)
    go p h (accepted n _ _ _ _) = absurd (rw h at n)
