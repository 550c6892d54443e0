-- A value that owning tells of (`c.good`, a call's `.ok`) has its type's shape.
use Prim.Native.Nat.{ℕ}
use mathlib.Core.Path.{◌≡◌}
use mathlib.Core.List.{List, [], ◌∷◌}
use lib.ListN.{length}
use mir.Val.{Val}
use denote.Shadow.{shadow}
use denote.Laws.{Is}
use denote.Array.{Array, each}
use denote.RattleType.{RattleType}
use denote.Builtin.{u8}
use denote.Struct.Declared.{row}
use Rattle.geometry.specs.Geometry.{most_pages, slot_count, pcr_count, digest_size}
use Rattle.sha_1.specs.declared.Digest.{Digest}
use Rattle.fields.specs.declared.Run.{Run}
use Rattle.fields.specs.declared.Entry.{Entry}
use Rattle.fields.specs.declared.Fields.{Fields}
use Rattle.fields.specs.Fields.{run_places, entry_places}
use Rattle.state.specs.declared.Card.{Card}
use Rattle.state.specs.declared.Slot.{Slot}
use Rattle.state.specs.declared.Running.{Running}
use Rattle.state.specs.declared.State.{State}
use Rattle.state.proofs.Shape.{Each, Byte, RunShape, EntryShape, FieldsShape, DigestShape, CardShape, SlotShape, RunningShape, StateShape}
use Rattle.fields.specs.contracts.Run as run
use Rattle.fields.specs.contracts.Entry as entry
use Rattle.fields.specs.contracts.Fields as fields
use Rattle.sha_1.specs.contracts.Digest as digest
use Rattle.state.specs.contracts.Card as card
use Rattle.state.specs.contracts.Slot as slot
use Rattle.state.specs.contracts.Running as running
use Rattle.state.specs.contracts.State as state

-- an array: how long, and each element
module _ (R : RattleType) (n : ℕ) (xs : List R.Denot) (vs : List Val) where
  pub long : Is (Array R n) xs vs → length xs ≡ n
  long g = g.1.0.1

each_of : (R : RattleType) (P : R.Denot → Type 0) → ((x : R.Denot) (vs : List Val) → Is R x vs → P x)
    → (xs : List R.Denot) (us : List Val) → shadow (each R.Denot R.own_val xs us) → Each P xs
each_of R P h [] us g = tt
each_of R P h (x ∷ xs) [] g = absurd g
each_of R P h (x ∷ xs) (u ∷ us) g = (h x (u ∷ []) g.0, each_of R P h xs us g.1)

pub all : (R : RattleType) (n : ℕ) (P : R.Denot → Type 0) → ((x : R.Denot) (vs : List Val) → Is R x vs → P x)
    → (xs : List R.Denot) (vs : List Val) → Is (Array R n) xs vs → Each P xs
all R n P h xs vs g = each_of R P h xs g.0 g.1.1

byte : (x : ℕ) (vs : List Val) → Is u8 x vs → Byte x
byte x vs g = g.1

pub run_shape : (r : Run) (vs : List Val) → Is (row run.the_type) r vs → RunShape r
run_shape r vs g = record { kind = g.1.1.0.1; count = g.1.1.1.0.1; first = g.1.1.1.1.0.1 }

pub entry_shape : (e : Entry) (vs : List Val) → Is (row entry.the_type) e vs → EntryShape e
entry_shape e vs g = record { address = g.1.1.0.1; input = g.1.1.1.0.1; output = g.1.1.1.1.0.1 }

pub fields_shape : (f : Fields) (vs : List Val) → Is (row fields.the_type) f vs → FieldsShape f
fields_shape f vs g =
    let a = g.1.1.1.1 in
    record {
      r = g.1.1.0.1;
      e = g.1.1.1.0.1;
      runs_long = long (row run.the_type) run_places f.runs _ a.0;
      runs = all (row run.the_type) run_places RunShape run_shape f.runs _ a.0;
      entries_long = long (row entry.the_type) entry_places f.entries _ a.1.0;
      entries = all (row entry.the_type) entry_places EntryShape entry_shape f.entries _ a.1.0;
    }

pub digest_shape : (d : Digest) (vs : List Val) → Is (row digest.the_type) d vs → DigestShape d
digest_shape d vs g = record {
  long = long u8 digest_size d.bytes _ g.1.1.0;
  bytes = all u8 digest_size Byte byte d.bytes _ g.1.1.0;
}

pub card_shape : (x : Card) (vs : List Val) → Is (row card.the_type) x vs → CardShape x
card_shape x vs g = record { mark = g.1.1.1.0.1; fields = fields_shape x.fields _ g.1.1.1.1.0 }

pub slot_shape : (x : Slot) (vs : List Val) → Is (row slot.the_type) x vs → SlotShape x
slot_shape x vs g = record {
  card = card_shape x.card _ g.1.1.0;
  pcrs_long = long (row digest.the_type) pcr_count x.pcrs _ g.1.1.1.0;
  pcrs = all (row digest.the_type) pcr_count DigestShape digest_shape x.pcrs _ g.1.1.1.0;
}

pub running_shape : (x : Running) (vs : List Val) → Is (row running.the_type) x vs → RunningShape x
running_shape x vs g = record { slot = g.1.1.0.1; out = g.1.1.1.0.1; length = g.1.1.1.1.0.1 }

pub state_shape : (s : State) (vs : List Val) → Is (row state.the_type) s vs → StateShape s
state_shape s vs g =
    let f = g.1.1 in
    let a = f.1.1.1 in
    record {
      pages = f.0.1;
      kept = f.1.0.1;
      owner_long = long u8 most_pages s.owner _ f.1.1.0;
      owner = all u8 most_pages Byte byte s.owner _ f.1.1.0;
      slots_long = long (row slot.the_type) slot_count s.slots _ a.0;
      slots = all (row slot.the_type) slot_count SlotShape slot_shape s.slots _ a.0;
      running = running_shape s.running _ a.1.1.0;
    }
