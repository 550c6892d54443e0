-- What the slot's methods give.
use Rattle.std.specs.Prelude.{ℕ, Bool, ◌&&◌, List, ◌++◌, get_or, set, ltb, eqb, Option, Some, None}
use Rattle.lists.specs.Below.{pick, first_below}
use Rattle.fields.specs.declared.Entry.{Entry}
use Rattle.fields.specs.declared.Fields.{Fields}
use Rattle.fields.specs.Fields.{entry_places, entry_at}
use Rattle.sha_1.specs.declared.Digest.{Digest}
use Rattle.sha_1.specs.Sha1.{sha1}
use Rattle.state.specs.declared.Card.{Card}
use Rattle.state.specs.declared.Slot.{Slot}
use Rattle.state.specs.Zero.{no_pcr}

-- entry i is in use and begins at the address
abbrev pub begins_at : Fields → ℕ → ℕ → Bool
begins_at f a i = ltb i f.e && eqb (entry_at f i).address a

abbrev pub entry_in : Fields → ℕ → Option Entry
entry_in f k = pick (ltb k entry_places) (Some (entry_at f k)) None

-- the entry in use that has the address
abbrev pub entry_within : Fields → ℕ → Option Entry
entry_within f a = entry_in f (first_below (begins_at f a) entry_places)

unfoldable pub entry_found : Card → ℕ → Option Entry
entry_found x a = entry_within x.fields a

-- "µPCR new = SHA-1(old, ..)"
abbrev pub extended_pcr : Digest → Digest → Digest
extended_pcr old d = record { bytes = sha1 (old.bytes ++ d.bytes) }

-- a slot's µPCRs with number i extended
unfoldable pub extended_pcrs : List Digest → ℕ → Digest → List Digest
extended_pcrs pcrs i d = set pcrs i (extended_pcr (get_or pcrs i no_pcr) d)

unfoldable pub extended_slot : Slot → ℕ → Digest → Slot
extended_slot x i d = record { card = x.card; pcrs = extended_pcrs x.pcrs i d }
