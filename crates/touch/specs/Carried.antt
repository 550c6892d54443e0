-- A plan carried out by code.
use Rattle.std.specs.Prelude.{ℕ, ◌≡◌, true, List, length, get_or}
use Rattle.sha_1.specs.declared.Digest.{Digest}
use Rattle.state.specs.declared.Mode.TheVariants.{Secure}
use Rattle.state.specs.declared.Slot.{Slot}
use Rattle.state.specs.declared.State.{State}
use Rattle.state.specs.Zero.{no_slot}
use Rattle.state.specs.Face.{face_of, pcrs_of, state_of}
use Rattle.events.specs.declared.Answer.{Answer}
use Rattle.rules.specs.Plan.{Plan}
use Rattle.rules.specs.Tests as Tests
use Rattle.rules.specs.Decide.{pcr_rule}
use Rattle.rules.specs.Act.{fetched, stored, sealed}
use Rattle.wellformed.specs.WellFormed.{state_right}
use Rattle.touch.specs.declared.Stepped.{Stepped}
use Rattle.touch.specs.declared.pages.Access.{Access}
use Rattle.touch.specs.declared.pages.Access.TheVariants.{Read, Write, Device}

-- ---- what the code has of the state: the owner of a page, slot k, the slot that runs
-- Each event asks for those that it looks at (docs/PROMISES.md, "What inner functions ask"). No struct holds them as its invariant: it would ask all of every event.
-- Nor does one hold state and memory with `well_formed` as its invariant: by value it is not covered where a branch writes memory, and by `&mut` each event
-- that writes memory owes a clause in place of the premise, that memory's reference is the same. Tried on read, write and dispatch.

abbrev pub Owned : State → ℕ → ℕ → Type 0
Owned s p v = v ≡ get_or s.owner p 0

abbrev pub IsSlot : State → ℕ → Slot → Type 0
IsSlot s k x = x ≡ get_or s.slots k no_slot

abbrev pub Runs : State → Slot → Type 0
Runs s x = (k : ℕ) → s.mode ≡ Secure k → IsSlot s k x

-- an access, as the rules have it
abbrev pub access_of : Access → Tests.Access
access_of Read = Tests.read
access_of Write = Tests.write
access_of Device = Tests.device

-- what the page rule asks to be the state's: the page's owner, and for a write the slot that runs
abbrev pub Asks : State → Slot → ℕ → Access → ℕ → Type 0
Asks s x v Read p = (state_right s ≡ true) × Owned s p v
Asks s x v Write p = (state_right s ≡ true) × (Owned s p v × Runs s x)
Asks s x v Device p = Owned s p v

-- ---- what it did

-- it answered as planned, and filled the buffer as planned
abbrev pub Fills : Plan → List (List Digest) → List ℕ → List ℕ → Answer → List ℕ → Type 0
Fills p pcrs m buffer r buffer' = (r ≡ p.answer) × (buffer' ≡ fetched p.fetch pcrs m buffer)

-- it answered as planned, and left memory as planned
abbrev pub Stores : Plan → List ℕ → List ℕ → Answer → List ℕ → Type 0
Stores p payload m r m' = (r ≡ p.answer) × (m' ≡ stored p.store payload m)

-- a µPCR given, whatever stands in memory
abbrev pub PcrGiven : State → ℕ → ℕ → List ℕ → Answer → List ℕ → Type 0
PcrGiven s k i buffer r buffer' = (m : List ℕ) → Fills (pcr_rule (face_of s) k (length buffer) i) (pcrs_of s) m buffer r buffer'

-- it answered as planned, and left the state and memory as planned; the payload is what a plan may store or hash
pub record Steps (p : Plan) (payload : List ℕ) (pcrs : List (List Digest)) (m : List ℕ) (r : Stepped) (m' : List ℕ) : Type 0 where
  pub answer : r.answer ≡ p.answer
  pub state : r.state ≡ state_of p.next (sealed p.seal payload m pcrs)
  pub memory : m' ≡ stored p.store payload m
