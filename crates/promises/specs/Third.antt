-- Demand 3: "Take one registered codeblock and two well-formed states, memory included, that differ at most in the bytes of its pages and in its µPCRs. Feed
-- both the same events [..]. If each of its returns hands out equal bytes in both runs, then every answer to anyone else is equal, its own answers differ at
-- most in the bytes read, and memory outside its pages stays equal. From its release on, the two states and memories are the same."
-- rules/specs/Isolation has the demand sentence by sentence, as a statement about the rules; here it is said of the code as well.
--
-- In plain words: what a codeblock keeps in its own pages stays its own. Change its secrets, and nobody else can tell: not the system that called it, not
-- another codeblock, not a device. They see the same answers and the same memory, except for the bytes that the codeblock hands out itself when it returns.
-- Once it is released even that trace is gone: nothing that it ever held is left anywhere.
use Rattle.std.specs.Prelude.{ℕ, ◌≡◌, Bool, true, ◌&&◌, List, [], ◌∷◌}
use Rattle.rules.specs.Act.{World, Out}
use Rattle.rules.specs.Isolation.{Shaped, face, Related, Alike, Feed, world, mine, Fed, Answers, stays, Keeps, Isolation}
use Rattle.preserved.specs.Preserved.{Ask}
use Rattle.alive.specs.Trace.{TwoWorlds}
use Rattle.promises.specs.Code.{Called}

-- what both runs were fed, and what the code left in each
pub record Turn : Type 0 where
  pub feed : Feed
  pub one : Out
  pub two : Out

abbrev pub ask : Feed → List ℕ → Ask
ask x payload = record { event = x.event; payload = payload; buffer = x.buffer }

-- the code was called on one event after the other, in each run on what it had left there
abbrev pub BothRan : World → World → List Turn → Type 0
BothRan w w' [] = Unit {0}
BothRan w w' (t ∷ ts) =
    Called w (ask t.feed t.feed.payload) t.one
    × Called w' (ask t.feed t.feed.payload') t.two
    × BothRan (world t.one) (world t.two) ts

-- slot k has not been released
abbrev pub lives : ℕ → Bool → Turn → Bool
lives k live t = live && stays k (world t.one)

-- "the same events [..] and the same lent buffers; only the payload bytes of its own writes and extends may differ until its release" and "each of its
-- returns hands out equal bytes in both runs"
abbrev pub AllFedBy : ℕ → Bool → World → World → List Turn → Type 0
AllFedBy k live w w' [] = Unit {0}
AllFedBy k live w w' (t ∷ ts) = Fed k live w w' t.feed × AllFedBy k (lives k live t) (world t.one) (world t.two) ts

-- what the code left in the two runs is as the demand says, before each event and after the last
abbrev pub AllApart : ℕ → Bool → World → World → List Turn → Type 0
AllApart k live w w' [] = Alike k live w w'
AllApart k live w w' (t ∷ ts) =
    Alike k live w w'
    × Answers (mine k live w t.feed) t.one t.two
    × (lives k live t ≡ true → Keeps k (face w) (face (world t.one)))
    × AllApart k (lives k live t) (world t.one) (world t.two) ts

pub record KeptApart : Type 0 where
  -- of the rules
  pub rules : Isolation
  -- of the code
  pub code :
      (k : ℕ) (w w' : World) (ts : List Turn) → Shaped w.state → Shaped w'.state
      → Related k w w' → BothRan w w' ts → AllFedBy k true w w' ts → AllApart k true w w' ts
  -- and it is no empty promise: two such worlds go through a life in which every event is accepted
  pub alive : TwoWorlds
