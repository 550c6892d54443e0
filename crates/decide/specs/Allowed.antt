-- Check 2, as the code asks it, and the outcome of a step as the code gives it.
use Rattle.std.specs.Prelude.{ℕ, ◌≡◌, Bool, true, false, not, List}
use Rattle.state.specs.declared.Mode.{Mode}
use Rattle.state.specs.declared.Mode.TheVariants.{Legacy, Secure}
use Rattle.events.specs.declared.Event.{Event}
use Rattle.events.specs.declared.Event.TheVariants.{Register, Unregister, Call, Return, Jump, Read, Write, DeviceRead, DeviceWrite, Extend, PcrRead}
use Rattle.rules.specs.Act.{Out}
use Rattle.state.specs.declared.State.{State}
use Rattle.touch.specs.declared.Stepped.{Stepped}
use Rattle.change.specs.declared.Change.{Change}
use Rattle.change.specs.Turns.{settled, Fits}

abbrev pub is_legacy : Mode → Bool
is_legacy Legacy = true
is_legacy (Secure k) = false

-- the slot that runs; in legacy mode 0
abbrev pub slot_in : Mode → ℕ
slot_in Legacy = 0
slot_in (Secure k) = k

-- "event not allowed in this mode" is 2
abbrev pub allowed : Mode → Event → Bool
allowed m (Register mark) = is_legacy m
allowed m (Unregister mark k) = is_legacy m
allowed m (Call mark a i o) = is_legacy m
allowed m Return = not (is_legacy m)
allowed m (Jump a) = true
allowed m (Read a n) = true
allowed m (Write a) = true
allowed m (DeviceRead a n) = true
allowed m (DeviceWrite a) = true
allowed m (Extend i source a n) = not (is_legacy m)
allowed m (PcrRead i) = not (is_legacy m)

-- answer and state, with memory and the buffer as they are left
abbrev pub out_of : Stepped → List ℕ → List ℕ → Out
out_of r m b = record { answer = r.answer; state = r.state; memory = m; buffer = b }

-- what a decision comes to: the outcome, with the state after the change; and the change can be made
pub record Comes (s : State) (c : Change) (m b : List ℕ) (o : Out) : Type 0 where
  pub out : out_of (settled s c) m b ≡ o
  pub fits : Fits s c.turn
