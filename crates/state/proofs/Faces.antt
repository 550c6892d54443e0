-- Face and µPCRs make the state, and the state has them back; setting one slot of it.
use Prim.Native.Nat.{ℕ, ◌<◌}
use native.Mathlib.Omega.{arith}
use native.Mathlib.Decide.{ℕ_discrete}
use mathlib.Core.Path.{◌≡◌, sym, ap, ◌∙◌}
use mathlib.Core.List.{List, [], map}
use lib.ListN.{length, get_or, set, length-set, length-map, get_or-map}
use lib.Seq.{ext_get_or, get_or-set_same, get_or-set_other}
use Rattle.lists.specs.Below.{table}
use Rattle.lists.proofs.Tables.{table_long, table_at, table_same, table_of, map_table}
use Rattle.geometry.specs.Geometry.{slot_count}
use Rattle.sha_1.specs.declared.Digest.{Digest}
use Rattle.state.specs.declared.Card.{Card}
use Rattle.state.specs.declared.Slot.{Slot}
use Rattle.state.specs.declared.State.{State}
use Rattle.state.specs.Zero.{no_card, no_slot}
use Rattle.state.specs.Face.{Face, card_of, pcrs_in, face_of, pcrs_of, slot_of, state_of}

-- the card and the µPCRs of slot k
pub card_at_lem : (xs : List Slot) (k : ℕ) → get_or (map card_of xs) k no_card ≡ (get_or xs k no_slot).card
card_at_lem xs k = get_or-map card_of xs k no_slot

pub pcrs_at : (xs : List Slot) (k : ℕ) → get_or (map pcrs_in xs) k [] ≡ (get_or xs k no_slot).pcrs
pcrs_at xs k = get_or-map pcrs_in xs k no_slot

-- slot k of a state's face and µPCRs is the state's slot k
pub slot_at_lem : (xs : List Slot) (k : ℕ) → slot_of (map card_of xs) (map pcrs_in xs) k ≡ get_or xs k no_slot
slot_at_lem xs k = rw (card_at_lem xs k, pcrs_at xs k)

pub slots_back : (xs : List Slot) → length xs ≡ slot_count → table (slot_of (map card_of xs) (map pcrs_in xs)) slot_count ≡ xs
slots_back xs e =
    table_same (slot_of (map card_of xs) (map pcrs_in xs)) (λ k. get_or xs k no_slot) slot_count (λ k l. slot_at_lem xs k)
    ∙ sym (table_of xs no_slot slot_count e)

-- a state is made of its face and its µPCRs
pub state_back : (s : State) → length s.slots ≡ slot_count → state_of (face_of s) (pcrs_of s) ≡ s
unfolding state_of
state_back s e = ap (λ (xs : List Slot). record { pages = s.pages; kept = s.kept; owner = s.owner; slots = xs; mode = s.mode; running = s.running }) (slots_back s.slots e)

cards_back : (cards : List Card) (pcrs : List (List Digest)) → length cards ≡ slot_count → map card_of (table (slot_of cards pcrs) slot_count) ≡ cards
cards_back cards pcrs e = map_table card_of (slot_of cards pcrs) no_slot slot_count ∙ sym (table_of cards no_card slot_count e)

-- the face and the µPCRs of the state made of them
pub face_back : (f : Face) (pcrs : List (List Digest)) → length f.cards ≡ slot_count → face_of (state_of f pcrs) ≡ f
unfolding state_of
face_back f pcrs e = ap (λ (xs : List Card). record { pages = f.pages; kept = f.kept; owner = f.owner; cards = xs; mode = f.mode; running = f.running }) (cards_back f.cards pcrs e)

pub pcrs_back : (f : Face) (pcrs : List (List Digest)) → length pcrs ≡ slot_count → pcrs_of (state_of f pcrs) ≡ pcrs
unfolding state_of
pcrs_back f pcrs e = map_table pcrs_in (slot_of f.cards pcrs) no_slot slot_count ∙ sym (table_of pcrs [] slot_count e)

module _ (cards : List Card) (pcrs : List (List Digest)) (k : ℕ) (x : Card) (y : List Digest) where
  abbrev old : List Slot
  old = table (slot_of cards pcrs) slot_count

  abbrev new : ℕ → Slot
  new = slot_of (set cards k x) (set pcrs k y)

  abbrev one : Slot
  one = record { card = x; pcrs = y }

  set_at_each : length cards ≡ slot_count → length pcrs ≡ slot_count → k < slot_count → (i : ℕ) → i < slot_count → Dec (i ≡ k) → new i ≡ get_or (set old k one) i no_slot
  set_at_each e g l i b (yes q) =
      rw (q, get_or-set_same cards k x no_card (omega arith), get_or-set_same pcrs k y [] (omega arith))
      (sym (get_or-set_same old k one no_slot (rw (table_long (slot_of cards pcrs) slot_count) l)))
  set_at_each e g l i b (no q) =
      rw (get_or-set_other cards k i x no_card q, get_or-set_other pcrs k i y [] q)
      (sym (table_at (slot_of cards pcrs) slot_count i no_slot b) ∙ sym (get_or-set_other old k i one no_slot q))

  -- the slots with one of them set: its card, and its µPCRs
  pub slots_set : length cards ≡ slot_count → length pcrs ≡ slot_count → k < slot_count
      → table (slot_of (set cards k x) (set pcrs k y)) slot_count ≡ set (table (slot_of cards pcrs) slot_count) k (record { card = x; pcrs = y })
  slots_set e g l =
      ext_get_or no_slot (table new slot_count) (set old k one) (table_long new slot_count ∙ sym (length-set old k one ∙ table_long (slot_of cards pcrs) slot_count))
      (λ i m. let b : i < slot_count = rw (table_long new slot_count) at m in
      table_at new slot_count i no_slot b ∙ set_at_each e g l i b (ℕ_discrete i k))

-- the same of a state's own cards and µPCRs
pub state_set : (s : State) (k : ℕ) (x : Slot) → length s.slots ≡ slot_count → k < slot_count
    → table (slot_of (set (map card_of s.slots) k x.card) (set (map pcrs_in s.slots) k x.pcrs)) slot_count ≡ set s.slots k x
state_set s k x e l =
    slots_set (map card_of s.slots) (map pcrs_in s.slots) k x.card x.pcrs (length-map s.slots card_of ∙ e) (length-map s.slots pcrs_in ∙ e) l
    ∙ ap (λ (xs : List Slot). set xs k x) (slots_back s.slots e)
