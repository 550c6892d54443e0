-- What a turn stores, part by part: the mode and the running record; a slot, and the owner that pages get.
use Rattle.std.specs.Prelude.{ℕ, ◌+◌, ◌<◌, List, get_or, set, Option, Some, None}
use Rattle.geometry.specs.Geometry.{slot_count, pcr_count}
use Rattle.sha_1.specs.declared.Digest.{Digest}
use Rattle.fields.specs.declared.Fields.{Fields}
use Rattle.fields.specs.Fields.{zero_fields}
use Rattle.painting.specs.Painting.{painted_runs}
use Rattle.state.specs.declared.Mode.{Mode}
use Rattle.state.specs.declared.Mode.TheVariants.{Legacy, Secure}
use Rattle.state.specs.declared.Running.{Running}
use Rattle.state.specs.declared.Slot.{Slot}
use Rattle.state.specs.declared.State.{State}
use Rattle.state.specs.Zero.{zero_slot, no_slot, zero_running}
use Rattle.state.specs.Slots.{extended_slot}
use Rattle.change.specs.declared.Turn.{Turn}
use Rattle.change.specs.declared.Turn.TheVariants.{Kept, Enters, Leaves, Frees, Extends, Enrolls}
use Rattle.change.specs.declared.Steer.{Steer}
use Rattle.change.specs.declared.Seat.{Seat}
use Rattle.change.specs.Turns.{in_mode, fresh_slot}

abbrev pub steered : Mode → Running → Option Steer
steered m x = Some (record { mode = m; running = x })

abbrev pub steering : Turn → Option Steer
steering Kept = None
steering (Enters y) = steered (Secure y.slot) y
steering (Leaves y) = steered Legacy y
steering (Frees k) = steered Legacy zero_running
steering (Extends k i d) = None
steering (Enrolls k mark x d) = None

abbrev pub placing : Turn → Option ℕ
placing Kept = None
placing (Enters y) = None
placing (Leaves y) = None
placing (Frees k) = Some k
placing (Extends k i d) = Some k
placing (Enrolls k mark x d) = Some k

-- no page gets another owner
abbrev pub filled : Slot → Seat
filled x = record { slot = x; fields = zero_fields; owner = 0 }

-- the slot becomes zero, and its pages open
abbrev pub freed : Slot → Seat
freed x = record { slot = zero_slot; fields = x.card.fields; owner = 0 }

-- "Its pages become its own."
abbrev pub enrolled : ℕ → ℕ → Fields → Digest → Seat
enrolled k mark x d = record { slot = fresh_slot mark x d; fields = x; owner = k + 1 }

-- what a turn makes of the slot that it fills
abbrev pub seating : Slot → Turn → Seat
seating y Kept = filled y
seating y (Enters z) = filled y
seating y (Leaves z) = filled y
seating y (Frees k) = freed y
seating y (Extends k i d) = filled (extended_slot y i d)
seating y (Enrolls k mark x d) = enrolled k mark x d

-- a µPCR and an owner that are there
abbrev pub Seats : Turn → Type 0
Seats Kept = Unit {0}
Seats (Enters z) = Unit {0}
Seats (Leaves z) = Unit {0}
Seats (Frees k) = Unit {0}
Seats (Extends k i d) = i < pcr_count
Seats (Enrolls k mark x d) = k < slot_count

-- the pages' owners, and the slots, with the seat taken in slot k
abbrev pub owners_by : Seat → List ℕ → List ℕ
owners_by x owner = painted_runs owner x.fields.runs x.owner x.fields.r

abbrev pub slots_by : Seat → ℕ → List Slot → List Slot
slots_by x k slots = set slots k x.slot

-- the state with the seat taken in slot k
abbrev pub taken : State → ℕ → Seat → State
taken s k x = record { pages = s.pages; kept = s.kept; owner = owners_by x s.owner; slots = slots_by x k s.slots; mode = s.mode; running = s.running }

-- the state with each of these parts stored, where there is one
abbrev pub seated_in : State → Turn → Option ℕ → State
seated_in s t None = s
seated_in s t (Some k) = taken s k (seating (get_or s.slots k no_slot) t)

abbrev pub seat_stored : State → Turn → State
seat_stored s t = seated_in s t (placing t)

abbrev pub mode_stored : State → Option Steer → State
mode_stored s None = s
mode_stored s (Some x) = in_mode s x.mode x.running
