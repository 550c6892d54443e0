-- A plan: what an event's decision says is to be done. It is made without a look at memory or µPCRs, and `act` carries it out.
use Rattle.std.specs.Prelude.{ℕ, Bool, true, false, List}
use Rattle.memory.specs.declared.Source.{Source}
use Rattle.events.specs.declared.Answer.{Answer}
use Rattle.events.specs.declared.Answer.TheVariants as answer
use Rattle.events.specs.declared.Refusal.{Refusal}
use Rattle.state.specs.Face.{Face}

-- what fills the answer buffer
pub data Fetch : Type 0 where
  nothing : Fetch
  -- n bytes of memory from an address
  bytes : ℕ → ℕ → Fetch
  -- of a slot, the µPCR of an index
  pcr : ℕ → ℕ → Fetch

-- what happens to memory
pub data Store : Type 0 where
  keep : Store
  -- the payload goes to an address
  put : ℕ → Store
  -- from one address to another go n bytes
  move : ℕ → ℕ → ℕ → Store
  -- these pages become zero
  clean : List ℕ → Store

-- what happens to the µPCRs
pub data Seal : Type 0 where
  same : Seal
  -- a slot's become zero
  clear : ℕ → Seal
  -- of a slot, the one of an index is extended by bytes of a source, from an address, so many
  extend : ℕ → ℕ → Source → ℕ → ℕ → Seal
  -- a slot's become those of a fresh codeblock with these pages
  measure : ℕ → List ℕ → Seal

pub record Plan : Type 0 where
  pub answer : Answer
  pub next : Face
  pub fetch : Fetch
  pub store : Store
  pub seal : Seal

-- "Each returns its number and the state as given; memory and the answer buffer keep every byte."
abbrev pub refuse : Refusal → Face → Plan
refuse r f = record { answer = answer.Refused r; next = f; fetch = nothing; store = keep; seal = same }

-- a check: its refusal where it fails, else what follows
unfoldable pub guard : Bool → Refusal → Face → Plan → Plan
guard true r f p = p
guard false r f p = refuse r f

-- what an accepted event does that leaves the face as it is
abbrev pub still : Face → Fetch → Store → Seal → Answer → Plan
still f x y z a = record { answer = a; next = f; fetch = x; store = y; seal = z }
