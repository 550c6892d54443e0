-- Isolation is not empty: two worlds that differ in all that it lets differ go through call, writes, extend, return, release and a read.
use Rattle.std.specs.Prelude.{ℕ, ◌≤◌, ◌<◌, ◌≡◌, ◌⊎◌, true, List, [], ◌∷◌, length, get_or}
use Rattle.memory.specs.declared.Source.TheVariants.{Payload}
use Rattle.sha_1.specs.declared.Digest.{Digest}
use Rattle.events.specs.declared.Event.{Event}
use Rattle.events.specs.declared.Event.TheVariants.{Unregister, Call, Return, Read, Write, Extend}
use Rattle.events.specs.declared.Answer.{Answer}
use Rattle.events.specs.declared.Answer.TheVariants.{Done, Entered, Left, Filled}
use Rattle.rules.specs.Act.{World, Out}
use Rattle.rules.specs.Isolation.{Related, Feed, first, second, world, AllFed}
use Rattle.alive.specs.States.{idle}

-- slot 0 rests on pages 2 and 3, with these µPCRs
abbrev pub world_of : List Digest → List ℕ → World
world_of pcrs m = record { state = idle pcrs; memory = m }

abbrev pub four : List ℕ
four = 0 ∷ 0 ∷ 0 ∷ 0 ∷ []

abbrev pub letters : List ℕ
letters = 122 ∷ 122 ∷ 122 ∷ 122 ∷ []

abbrev pub feed : Event → List ℕ → List ℕ → Feed
feed e bs bs' = record { event = e; payload = bs; payload' = bs'; buffer = four }

-- it is called, writes bytes of its own, writes what it hands out, extends µPCR 1, returns and is released; then its output is read
abbrev pub trace : List Feed
trace =
    feed (Call 7 8192 100 200) [] []
    ∷ feed (Write 12288) (1 ∷ 2 ∷ []) (3 ∷ 4 ∷ [])
    ∷ feed (Write 14336) letters letters
    ∷ feed (Extend 1 Payload 0 0) (5 ∷ []) (6 ∷ [])
    ∷ feed Return [] []
    ∷ feed (Unregister 7 0) [] []
    ∷ feed (Read 200 4) [] []
    ∷ []

-- what is heard of a run: each answer, with the answer buffer
pub record Heard : Type 0 where
  pub answer : Answer
  pub buffer : List ℕ

abbrev pub heard_by : (World → Feed → Out) → World → List Feed → List Heard
heard_by go w [] = []
heard_by go w (x ∷ xs) = record { answer = (go w x).answer; buffer = (go w x).buffer } ∷ heard_by go (world (go w x)) xs

abbrev pub hear : Answer → List ℕ → Heard
hear a b = record { answer = a; buffer = b }

abbrev pub heard : List Heard
heard =
    hear (Entered 0) four
    ∷ hear Done four
    ∷ hear Done four
    ∷ hear Done four
    ∷ hear (Left 4) four
    ∷ hear Done four
    ∷ hear (Filled 4) letters
    ∷ []

-- the two are as isolation asks, and both are heard alike
pub record Lives (w w' : World) : Type 0 where
  pub related : Related 0 w w'
  pub fed : AllFed 0 true w w' trace
  pub one : heard_by first w trace ≡ heard
  pub two : heard_by second w' trace ≡ heard

-- Whatever its µPCRs, and whatever memories of eight pages that agree outside pages 2 and 3.
abbrev pub TwoWorlds : Type 0
TwoWorlds =
    (pcrs pcrs' : List Digest) (m m' : List ℕ) → length m ≡ 32768 → length m' ≡ 32768
    → ((a : ℕ) → (a < 8192) ⊎ (16384 ≤ a) → get_or m a 0 ≡ get_or m' a 0) → Lives (world_of pcrs m) (world_of pcrs' m')
