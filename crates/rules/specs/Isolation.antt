-- Demand 3, isolation of a codeblock, as a statement over two runs of the rules. The demand's sentences, and what stands for each below:
--
-- "Take one registered codeblock": any slot k, registered (`Related`, the first two facts).
-- "and two well-formed states, memory included, that differ at most in the bytes of its pages and in its µPCRs": `Related`. Well-formedness is not
--   asked: the statement is of all states that the source's types allow (`Shaped`), and of those that are not well formed too.
-- "Feed both the same events, start not among them, and the same lent buffers": a `Feed` has one event, of the eleven, and one buffer for both runs;
--   the list of them is any list.
-- "only the payload bytes of its own writes and extends may differ until its release, their lengths not": `Payloads`; `live` is true until its release
--   and false from then on, also when another codeblock takes the slot. Its own events are those made while it runs: every event in secure mode in its
--   slot but the device's.
-- "If each of its returns hands out equal bytes in both runs": `Fed`, `returns`.
-- "then every answer to anyone else is equal": `Answers`, `whole`, with all bytes of the buffer.
-- "its own answers differ at most in the bytes read": `Answers`: the answer is equal, and the buffer from the bytes on that the answer fills.
-- "and memory outside its pages stays equal": `Alike` before each event and after the last, that is `Related` until its release; its pages stay the same
--   until then (`Keeps`), and are the same in both runs.
-- "From its release on, the two states and memories are the same": `Alike`, the second line.
use Rattle.std.specs.Prelude.{ℕ, ◌+◌, ◌≤◌, ◌<◌, ◌≡◌, ◌≢◌, Bool, true, false, not, ◌&&◌, List, [], ◌∷◌, length, get_or, eqb}
use Rattle.lists.specs.Bytes.{part}
use Rattle.geometry.specs.Geometry.{most_pages, slot_count, digest_size, page_of}
use Rattle.state.specs.declared.Mode.{Mode}
use Rattle.state.specs.declared.Mode.TheVariants.{Legacy, Secure}
use Rattle.state.specs.declared.State.{State}
use Rattle.state.specs.Zero.{no_pcr}
use Rattle.state.specs.Face.{Face, face_of, pcrs_of, card_at, owner_at}
use Rattle.events.specs.declared.Event.{Event}
use Rattle.events.specs.declared.Event.TheVariants.{Register, Unregister, Call, Return, Jump, Read, Write, DeviceRead, DeviceWrite, Extend, PcrRead}
use Rattle.events.specs.declared.Answer.TheVariants as answer
use Rattle.events.specs.Answers.{fills}
use Rattle.rules.specs.Decide.{out_from}
use Rattle.rules.specs.Act.{World, Out, step}

-- ---- whose event it is

abbrev pub by_device : Event → Bool
by_device (Register mark) = false
by_device (Unregister mark k) = false
by_device (Call mark a i o) = false
by_device Return = false
by_device (Jump a) = false
by_device (Read a n) = false
by_device (Write a) = false
by_device (DeviceRead a n) = true
by_device (DeviceWrite a) = true
by_device (Extend i source a n) = false
by_device (PcrRead i) = false

-- writes and extends
abbrev pub takes_bytes : Event → Bool
takes_bytes (Register mark) = false
takes_bytes (Unregister mark k) = false
takes_bytes (Call mark a i o) = false
takes_bytes Return = false
takes_bytes (Jump a) = false
takes_bytes (Read a n) = false
takes_bytes (Write a) = true
takes_bytes (DeviceRead a n) = false
takes_bytes (DeviceWrite a) = false
takes_bytes (Extend i source a n) = true
takes_bytes (PcrRead i) = false

-- the codeblock in slot k runs
abbrev pub runs : ℕ → Mode → Bool
runs k Legacy = false
runs k (Secure j) = eqb j k

-- the event is the own one of the codeblock in slot k
abbrev pub own_in : ℕ → Mode → Event → Bool
own_in k m e = not (by_device e) && runs k m

-- ---- two worlds

-- what the source's types say of a state, as far as it is needed: 1,024 places for owners, 20 bytes a µPCR
pub record Shaped (s : State) : Type 0 where
  pub owners : length s.owner ≤ most_pages
  pub digests : (j i : ℕ) → length (get_or (get_or (pcrs_of s) j []) i no_pcr).bytes ≤ digest_size

abbrev pub face : World → Face
face w = face_of w.state

-- they differ at most in the bytes of slot k's pages and in its µPCRs
pub record Related (k : ℕ) (w w' : World) : Type 0 where
  pub slot : k < slot_count
  pub registered : (card_at (face w) k).registered ≡ true
  pub faces : face w ≡ face w'
  pub others : (j : ℕ) → j ≢ k → get_or (pcrs_of w.state) j [] ≡ get_or (pcrs_of w'.state) j []
  pub long : length w.memory ≡ length w'.memory
  pub outside : (a : ℕ) → owner_at (face w) (page_of a) ≢ k + 1 → get_or w.memory a 0 ≡ get_or w'.memory a 0

-- until its release they are so related, and from then on the same
abbrev pub Alike : ℕ → Bool → World → World → Type 0
Alike k true w w' = Related k w w'
Alike k false w w' = w ≡ w'

-- ---- one step

-- an event, its payload in each run, and the buffer lent
pub record Feed : Type 0 where
  pub event : Event
  pub payload : List ℕ
  pub payload' : List ℕ
  pub buffer : List ℕ

abbrev pub first : World → Feed → Out
first w x = step w.state w.memory x.event x.payload x.buffer

abbrev pub second : World → Feed → Out
second w x = step w.state w.memory x.event x.payload' x.buffer

abbrev pub world : Out → World
world o = record { state = o.state; memory = o.memory }

-- the event is its own, and it has not been released
abbrev pub mine : ℕ → Bool → World → Feed → Bool
mine k live w x = live && own_in k w.state.mode x.event

-- the payloads are equal, or they are its own write's or extend's and their lengths are equal
pub data Payloads (own : Bool) (e : Event) (bs bs' : List ℕ) : Type 0 where
  equal : bs ≡ bs' → Payloads own e bs bs'
  hidden : own ≡ true → takes_bytes e ≡ true → length bs ≡ length bs' → Payloads own e bs bs'

-- the n bytes that a return of slot k hands out
abbrev pub handed_out : ℕ → World → ℕ → List ℕ
handed_out k w n = part w.memory (out_from (face w) k) n

-- what the two runs are fed
pub record Fed (k : ℕ) (live : Bool) (w w' : World) (x : Feed) : Type 0 where
  pub payloads : Payloads (mine k live w x) x.event x.payload x.payload'
  pub returns : mine k live w x ≡ true → (n : ℕ) → (first w x).answer ≡ answer.Left n → handed_out k w n ≡ handed_out k w' n

-- what the two runs answer
pub record Answers (own : Bool) (o o' : Out) : Type 0 where
  pub answers : o.answer ≡ o'.answer
  pub lengths : length o.buffer ≡ length o'.buffer
  pub beyond : (i : ℕ) → fills o.answer ≤ i → get_or o.buffer i 0 ≡ get_or o'.buffer i 0
  pub whole : own ≡ false → o.buffer ≡ o'.buffer

-- slot k is still registered
abbrev pub stays : ℕ → World → Bool
stays k w = (card_at (face w) k).registered

-- slot k has the same pages in two tables
abbrev pub Keeps : ℕ → Face → Face → Type 0
Keeps k f g = (p : ℕ) → (owner_at f p ≡ k + 1 → owner_at g p ≡ k + 1) × (owner_at g p ≡ k + 1 → owner_at f p ≡ k + 1)

-- ---- all steps

-- from its release on it is not live again
abbrev pub next : ℕ → Bool → World → Feed → Bool
next k live w x = live && stays k (world (first w x))

abbrev pub AllFed : ℕ → Bool → World → World → List Feed → Type 0
AllFed k live w w' [] = Unit {0}
AllFed k live w w' (x ∷ xs) = Fed k live w w' x × AllFed k (next k live w x) (world (first w x)) (world (second w' x)) xs

abbrev pub AllAlike : ℕ → Bool → World → World → List Feed → Type 0
AllAlike k live w w' [] = Alike k live w w'
AllAlike k live w w' (x ∷ xs) =
    Alike k live w w'
    × Answers (mine k live w x) (first w x) (second w' x)
    × (next k live w x ≡ true → Keeps k (face w) (face (world (first w x))))
    × AllAlike k (next k live w x) (world (first w x)) (world (second w' x)) xs

-- the demand
abbrev pub Isolation : Type 0
Isolation =
    (k : ℕ) (w w' : World) (xs : List Feed) → Shaped w.state → Shaped w'.state → Related k w w' → AllFed k true w w' xs → AllAlike k true w w' xs
