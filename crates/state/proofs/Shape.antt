-- What the source's types say of a value: how long each array is, and how large each number. No `List ℕ` says it by itself.
use Prim.Native.Nat.{ℕ, zero, suc, ◌<◌, ◌^◌}
use native.Mathlib.Nat.{not-suc-le-zero, le_of_suc-le-suc}
use mathlib.Core.Path.{◌≡◌}
use mathlib.Core.List.{List, [], ◌∷◌}
use lib.Dec.{lit<}
use lib.ListN.{length, get_or}
use Rattle.geometry.specs.Geometry.{most_pages, slot_count, pcr_count, digest_size}
use Rattle.sha_1.specs.declared.Digest.{Digest}
use Rattle.fields.specs.declared.Run.{Run}
use Rattle.fields.specs.declared.Entry.{Entry}
use Rattle.fields.specs.declared.Fields.{Fields}
use Rattle.fields.specs.Fields.{run_places, entry_places}
use Rattle.state.specs.declared.Card.{Card}
use Rattle.state.specs.declared.Slot.{Slot}
use Rattle.state.specs.declared.Running.{Running}
use Rattle.state.specs.declared.State.{State}
use Rattle.state.specs.Zero.{no_slot}

-- P of every element
abbrev pub Each : {A : Type 0} → (A → Type 0) → List A → Type 0
Each P [] = Unit {0}
Each P (x ∷ xs) = P x × Each P xs

pub each_at : {A : Type 0} (P : A → Type 0) (d : A) → P d → (xs : List A) → Each P xs → (i : ℕ) → P (get_or xs i d)
each_at P d z [] h i = z
each_at P d z (x ∷ xs) h zero = h.0
each_at P d z (x ∷ xs) h (suc i) = each_at P d z xs h.1 i

pub each_in : {A : Type 0} (P : A → Type 0) (d : A) (xs : List A) → Each P xs → (i : ℕ) → i < length xs → P (get_or xs i d)
each_in P d [] h i l = absurd (not-suc-le-zero l)
each_in P d (x ∷ xs) h zero l = h.0
each_in P d (x ∷ xs) h (suc i) l = each_in P d xs h.1 i (le_of_suc-le-suc l)

abbrev pub Byte : ℕ → Type 0
Byte x = x < 256

pub record RunShape (r : Run) : Type 0 where
  pub kind : Byte r.kind
  pub count : r.count < 2 ^ 16
  pub first : r.first < 2 ^ 32

pub record EntryShape (e : Entry) : Type 0 where
  pub address : e.address < 2 ^ 32
  pub input : e.input < 2 ^ 16
  pub output : e.output < 2 ^ 16

pub record FieldsShape (f : Fields) : Type 0 where
  pub r : f.r < 2 ^ 64
  pub e : f.e < 2 ^ 64
  pub runs_long : length f.runs ≡ run_places
  pub runs : Each RunShape f.runs
  pub entries_long : length f.entries ≡ entry_places
  pub entries : Each EntryShape f.entries

pub record DigestShape (d : Digest) : Type 0 where
  pub long : length d.bytes ≡ digest_size
  pub bytes : Each Byte d.bytes

pub record CardShape (x : Card) : Type 0 where
  pub mark : x.mark < 2 ^ 64
  pub fields : FieldsShape x.fields

pub record SlotShape (x : Slot) : Type 0 where
  pub card : CardShape x.card
  pub pcrs_long : length x.pcrs ≡ pcr_count
  pub pcrs : Each DigestShape x.pcrs

pub record RunningShape (x : Running) : Type 0 where
  pub slot : x.slot < 2 ^ 64
  pub out : x.out < 2 ^ 64
  pub length : x.length < 2 ^ 64

pub record StateShape (s : State) : Type 0 where
  pub pages : s.pages < 2 ^ 64
  pub kept : s.kept < 2 ^ 64
  pub owner_long : length s.owner ≡ most_pages
  pub owner : Each Byte s.owner
  pub slots_long : length s.slots ≡ slot_count
  pub slots : Each SlotShape s.slots
  pub running : RunningShape s.running

pub slot_in_lem : (s : State) → StateShape s → (k : ℕ) → k < slot_count → SlotShape (get_or s.slots k no_slot)
slot_in_lem s h k l = each_in SlotShape no_slot s.slots h.slots k (rw h.slots_long l)

pub owner_in : (s : State) → StateShape s → (p : ℕ) → Byte (get_or s.owner p 0)
owner_in s h p = each_at Byte 0 (lit< tt) s.owner h.owner p
