-- The state's face: all of it but the µPCRs. Face and µPCRs make the state.
use Rattle.std.specs.Prelude.{ℕ, ◌-◌, Bool, ◌&&◌, List, [], map, get_or, ltb, eqb}
use Rattle.lists.specs.Below.{table}
use Rattle.geometry.specs.Geometry.{slot_count}
use Rattle.sha_1.specs.declared.Digest.{Digest}
use Rattle.state.specs.declared.Card.{Card}
use Rattle.state.specs.declared.Slot.{Slot}
use Rattle.state.specs.declared.Mode.{Mode}
use Rattle.state.specs.declared.Running.{Running}
use Rattle.state.specs.declared.State.{State}
use Rattle.state.specs.Zero.{no_card}

pub record Face : Type 0 where
  pub pages : ℕ
  pub kept : ℕ
  pub owner : List ℕ
  pub cards : List Card
  pub mode : Mode
  pub running : Running

abbrev pub card_of : Slot → Card
card_of x = x.card

abbrev pub pcrs_in : Slot → List Digest
pcrs_in x = x.pcrs

abbrev pub face_of : State → Face
face_of s = record { pages = s.pages; kept = s.kept; owner = s.owner; cards = map card_of s.slots; mode = s.mode; running = s.running }

-- the µPCRs, slot by slot
abbrev pub pcrs_of : State → List (List Digest)
pcrs_of s = map pcrs_in s.slots

abbrev pub slot_of : List Card → List (List Digest) → ℕ → Slot
slot_of cards pcrs k = record { card = get_or cards k no_card; pcrs = get_or pcrs k [] }

-- the state that has that face and those µPCRs
unfoldable pub state_of : Face → List (List Digest) → State
state_of f pcrs = record {
  pages = f.pages;
  kept = f.kept;
  owner = f.owner;
  slots = table (slot_of f.cards pcrs) slot_count;
  mode = f.mode;
  running = f.running;
}

-- ---- what the face says of a slot and of a page

abbrev pub card_at : Face → ℕ → Card
card_at f k = get_or f.cards k no_card

abbrev pub owner_at : Face → ℕ → ℕ
owner_at f p = get_or f.owner p 0

-- the first of the monitor's pages: P−M
abbrev pub top_of : Face → ℕ
top_of f = f.pages - f.kept

-- "Open" means owner 0, of a page of memory
abbrev pub is_open : Face → ℕ → Bool
is_open f p = ltb p f.pages && eqb (owner_at f p) 0
