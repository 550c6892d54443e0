-- What becomes of the state: each turn, and the state after it.
use Rattle.std.specs.Prelude.{ℕ, ◌+◌, ◌<◌, true, List, get_or, set}
use Rattle.geometry.specs.Geometry.{slot_count, pcr_count}
use Rattle.sha_1.specs.declared.Digest.{Digest}
use Rattle.fields.specs.declared.Fields.{Fields}
use Rattle.painting.specs.Painting.{RunsFit}
use Rattle.state.specs.declared.Mode.{Mode}
use Rattle.state.specs.declared.Mode.TheVariants.{Legacy, Secure}
use Rattle.state.specs.declared.Running.{Running}
use Rattle.state.specs.declared.Slot.{Slot}
use Rattle.state.specs.declared.State.{State}
use Rattle.state.specs.Zero.{zero_slot, no_slot, zero_running}
use Rattle.state.specs.Face.{face_of, pcrs_of, card_at}
use Rattle.state.specs.Slots.{extended_pcrs, extended_slot}
use Rattle.events.specs.declared.Answer.{Answer}
use Rattle.events.specs.declared.Answer.TheVariants as answer
use Rattle.rules.specs.Plan.{Plan}
use Rattle.rules.specs.Tests.{given}
use Rattle.rules.specs.Act.{zero_pcrs}
use Rattle.touch.specs.declared.Stepped.{Stepped}
use Rattle.touch.specs.Carried.{Steps}
use Rattle.change.specs.declared.Turn.{Turn}
use Rattle.change.specs.declared.Turn.TheVariants.{Kept, Enters, Leaves, Frees, Extends, Enrolls}
use Rattle.change.specs.declared.Change.{Change}

-- the state in another mode, with another running record
abbrev pub in_mode : State → Mode → Running → State
in_mode s m x = record { pages = s.pages; kept = s.kept; owner = s.owner; slots = s.slots; mode = m; running = x }

-- slot k holds x, and the pages of the fields' runs have owner v
abbrev pub seated : State → ℕ → Slot → Fields → ℕ → State
seated s k x f v = record { pages = s.pages; kept = s.kept; owner = given s.owner f v; slots = set s.slots k x; mode = s.mode; running = s.running }

-- "the pages open; the slot becomes zero, and if it was running, the running record too"
abbrev pub vacated : State → ℕ → State
vacated s k = in_mode (seated s k zero_slot (card_at (face_of s) k).fields 0) Legacy zero_running

-- µPCR i of slot k extended by a digest
abbrev pub with_pcr : State → ℕ → ℕ → Digest → State
with_pcr s k i d = record { pages = s.pages; kept = s.kept; owner = s.owner; slots = set s.slots k (extended_slot (get_or s.slots k no_slot) i d); mode = s.mode; running = s.running }

-- a fresh codeblock's slot: its measurement is the digest
abbrev pub fresh_slot : ℕ → Fields → Digest → Slot
fresh_slot mark x d = record { card = record { registered = true; mark = mark; fields = x }; pcrs = extended_pcrs zero_pcrs 0 d }

-- "Its pages become its own."
abbrev pub enrolled_state : State → ℕ → ℕ → Fields → Digest → State
enrolled_state s k mark x d = seated s k (fresh_slot mark x d) x (k + 1)

-- the state after each turn
abbrev pub changed_by : State → Turn → State
changed_by s Kept = s
changed_by s (Enters y) = in_mode s (Secure y.slot) y
changed_by s (Leaves y) = in_mode s Legacy y
changed_by s (Frees k) = vacated s k
changed_by s (Extends k i d) = with_pcr s k i d
changed_by s (Enrolls k mark x d) = enrolled_state s k mark x d

-- the answer, and the state after the change
abbrev pub settled : State → Change → Stepped
settled s c = record { answer = c.answer; state = changed_by s c.turn }

abbrev pub turn_of : Answer → Turn → Change
turn_of a t = record { answer = a; turn = t }

abbrev pub extends_by : ℕ → ℕ → Digest → Change
extends_by k i d = turn_of answer.Done (Extends k i d)

abbrev pub enrolls_by : ℕ → ℕ → Fields → Digest → Change
enrolls_by k mark x d = turn_of (answer.Slot k) (Enrolls k mark x d)

-- the slot and the runs that a turn names are there
abbrev pub Fits : State → Turn → Type 0
Fits s Kept = Unit {0}
Fits s (Enters y) = Unit {0}
Fits s (Leaves y) = Unit {0}
Fits s (Frees k) = (k < slot_count) × RunsFit (get_or s.slots k no_slot).card.fields
Fits s (Extends k i d) = (k < slot_count) × (i < pcr_count)
Fits s (Enrolls k mark x d) = (k < slot_count) × RunsFit x

-- it answered as planned and left memory as planned, and the state after the change is as planned
pub record Settles (p : Plan) (payload : List ℕ) (s : State) (m : List ℕ) (c : Change) (m' : List ℕ) : Type 0 where
  pub steps : Steps p payload (pcrs_of s) m (settled s c) m'
  pub fits : Fits s c.turn

-- whatever the payload
abbrev pub Acts : Plan → State → List ℕ → Change → List ℕ → Type 0
Acts p s m c m' = (payload : List ℕ) → Settles p payload s m c m'
