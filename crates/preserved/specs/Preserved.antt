-- Every event keeps a well-formed state well formed. Without it the demands would speak of the first event alone.
use Rattle.std.specs.Prelude.{ℕ, ◌≡◌, true, List, [], ◌∷◌, length}
use Rattle.geometry.specs.Geometry.{slot_count}
use Rattle.state.specs.declared.State.{State}
use Rattle.wellformed.specs.WellFormed.{well_formed}
use Rattle.events.specs.declared.Event.{Event}
use Rattle.rules.specs.Act.{World, step}

-- a state of eight slots, as every value of its type has, that is well formed with its memory
pub record Well (s : State) (m : List ℕ) : Type 0 where
  pub eight : length s.slots ≡ slot_count
  pub right : well_formed s (length m) ≡ true

-- an event with its payload and the answer buffer
pub record Ask : Type 0 where
  pub event : Event
  pub payload : List ℕ
  pub buffer : List ℕ

abbrev pub after_one : World → Ask → World
after_one w x =
    record {
      state = (step w.state w.memory x.event x.payload x.buffer).state;
      memory = (step w.state w.memory x.event x.payload x.buffer).memory;
    }

-- the world after a list of events
abbrev pub after : World → List Ask → World
after w [] = w
after w (x ∷ xs) = after (after_one w x) xs

-- Whatever the events, their payloads and buffers, accepted or refused: from a well-formed state with its memory they lead to a well-formed state with
-- its memory.
abbrev pub StaysWellFormed : Type 0
StaysWellFormed = (w : World) (xs : List Ask) → Well w.state w.memory → Well (after w xs).state (after w xs).memory
