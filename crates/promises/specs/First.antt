-- Demand 1: "Every state, event, manifest and memory that can be handed over gets an answer, and the work ends. Bad input is refused by number. A refusal
-- gives back the state as it came, and memory and the answer buffer keep their old bytes."
--
-- In plain words: you can hand the monitor anything at all. It never hangs, never crashes and never reads or writes outside what it was lent. Either it
-- does what was asked, or it says no with a number from document 01's table, and then nothing has changed: not its own books, not a byte of memory, not a
-- byte of the buffer for the answer. So a caller may try, look at the number and try again, and a broken request costs nothing.
use Rattle.std.specs.Prelude.{ℕ, ◌≤◌, ◌≡◌, ◌≢◌, List, length, Err}
use Rattle.geometry.specs.Geometry.{slot_count}
use Rattle.fields.specs.declared.Fields.{Fields}
use Rattle.manifest.specs.Reader.{read_manifest, refused_reading}
use Rattle.manifest.specs.Writer.{outcome_of, write_manifest}
use Rattle.manifest.specs.contracts.read as read
use Rattle.manifest.specs.contracts.write as write
use Rattle.state.specs.declared.State.{State}
use Rattle.start.specs.Promise.{Refuses}
use Rattle.start.specs.contracts.start as start
use Rattle.devicemap.specs.Map.{mapped, buffer_after}
use Rattle.devicemap.specs.contracts.device_map as map
use Rattle.events.specs.declared.Answer.TheVariants.{Refused}
use Rattle.events.specs.declared.Refusal.{Refusal}
use Rattle.events.specs.Refusals.{number_of}
use Rattle.events.specs.Answers.{told_by}
use Rattle.rules.specs.Act.{World, Out, step}
use Rattle.kept.specs.Refusals.{AsGiven}
use Rattle.preserved.specs.Preserved.{Ask}
use Rattle.monitor.specs.contracts.step as code
use borrow.Fn.World.{w₀}
use borrow.Fn.Read.{r_top}
use Rattle.promises.specs.Code.{told, Called, AsksNothing}

pub record EveryInputAnswered : Type 0 where
  -- "Every state, event, manifest and memory that can be handed over gets an answer, and the work ends": no entry point asks anything, and a check proves
  -- of each function that it is safe and ends
  pub start_asks_nothing : AsksNothing start.ended (λ κs a. told ((start.clauses w₀.𝓛 w₀.𝓜.mem w₀.𝓡.run κs a).requires tt) r_top)
  pub step_asks_nothing : AsksNothing code.ended (λ κs a. told ((code.clauses w₀.𝓛 w₀.𝓜.mem w₀.𝓡.run κs a).requires tt) r_top)
  pub read_asks_nothing : AsksNothing read.ended (λ κs a. told ((read.clauses w₀.𝓛 w₀.𝓜.mem w₀.𝓡.run κs a).requires tt) r_top)
  pub write_asks_nothing : AsksNothing write.ended (λ κs a. told ((write.clauses w₀.𝓛 w₀.𝓜.mem w₀.𝓡.run κs a).requires tt) r_top)
  pub map_asks_nothing : AsksNothing map.ended (λ κs a. told ((map.clauses w₀.𝓛 w₀.𝓜.mem w₀.𝓡.run κs a).requires tt) r_top)
  -- and an answer that the contract allows is always there
  pub answered : (w : World) (x : Ask) → Called w x (step w.state w.memory x.event x.payload x.buffer)
  -- "Bad input is refused by number": an event's, one of 1 to 10
  pub numbered : (w : World) (x : Ask) (o : Out) → Called w x o → (r : Refusal) → o.answer ≡ Refused r → (1 ≤ number_of r) × (number_of r ≤ 10)
  -- "A refusal gives back the state as it came, and memory and the answer buffer keep their old bytes": of every state with eight slots, as all have
  pub kept :
      (w : World) (x : Ask) (o : Out) → Called w x o → length w.state.slots ≡ slot_count
      → (told_by o.answer).number ≢ 0 → AsGiven w.state w.memory x.buffer o
  -- and so start (4, all zero), the reader (3, all zero), the writer and the device map (the buffer as it came)
  pub start_refuses : Refuses
  pub read_refuses : (l : List ℕ) → (read_manifest l).refusal ≢ 0 → read_manifest l ≡ refused_reading
  pub write_refuses : (f : Fields) (b : List ℕ) → (outcome_of (write_manifest f b).answer).refusal ≢ 0 → (write_manifest f b).buffer ≡ b
  pub map_refuses : (s : State) (b : List ℕ) (r : Refusal) → mapped s (length b) ≡ Err r → buffer_after s b ≡ b
