-- Demand 1: "Each returns its number and the state as given; memory and the answer buffer keep every byte."
use Rattle.std.specs.Prelude.{ℕ, ◌≤◌, ◌≡◌, ◌≢◌, List, length}
use Rattle.geometry.specs.Geometry.{slot_count}
use Rattle.state.specs.declared.State.{State}
use Rattle.events.specs.declared.Event.{Event}
use Rattle.events.specs.declared.Answer.TheVariants as answer
use Rattle.events.specs.declared.Refusal.{Refusal}
use Rattle.events.specs.Refusals.{number_of}
use Rattle.events.specs.Answers.{told_by}
use Rattle.rules.specs.Act.{Out, step}

-- all is as it came
pub record AsGiven (s : State) (m given : List ℕ) (o : Out) : Type 0 where
  pub state : o.state ≡ s
  pub memory : o.memory ≡ m
  pub buffer : o.buffer ≡ given

-- Whatever the state, the memory, the event, its payload and the buffer: where the answer tells a number that isn't 0, the state, the memory and the
-- buffer are as they came. Of the state it is only asked that it has eight slots, as every value of its type has; it need not be well formed.
abbrev pub RefusalsKeep : Type 0
RefusalsKeep =
    (s : State) (m : List ℕ) (e : Event) (payload buffer : List ℕ) → length s.slots ≡ slot_count
    → (told_by (step s m e payload buffer).answer).number ≢ 0 → AsGiven s m buffer (step s m e payload buffer)

-- An event's answer that refuses has a number from 1 to 10. So 0 is told of accepted events alone.
abbrev pub RefusalsNamed : Type 0
RefusalsNamed =
    (s : State) (m : List ℕ) (e : Event) (payload buffer : List ℕ) (r : Refusal)
    → (step s m e payload buffer).answer ≡ answer.Refused r → (1 ≤ number_of r) × (number_of r ≤ 10)
