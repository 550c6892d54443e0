-- The manifest's layout (document 01, "Manifest: body first, trailer last", little-endian): its bytes from its fields, and its fields from its bytes.
use Rattle.std.specs.Prelude.{ℕ, ◌+◌, ◌*◌, ◌&&◌, List, [], ◌∷◌, ◌++◌, leb, ltb, get_or}
use Rattle.lists.specs.Below.{pick, table, joined}
use Rattle.lists.specs.Numbers.{little, little_at}
use Rattle.fields.specs.declared.Run.{Run}
use Rattle.fields.specs.declared.Entry.{Entry}
use Rattle.fields.specs.declared.Fields.{Fields}
use Rattle.fields.specs.Fields.{run_places, entry_places, no_run, no_entry, fields_of, run_at, entry_at}

-- "r runs (2 to 4) of 8 bytes, e entries (1 to 8) of 8 bytes, trailer of 16"
abbrev pub item_size : ℕ
item_size = 8

abbrev pub trailer_size : ℕ
trailer_size = 16

-- "Length is exactly 8(r+e)+16"
abbrev pub size_of : ℕ → ℕ → ℕ
size_of r e = item_size * (r + e) + trailer_size

-- "bytes 53 53 43 42, version 1"
abbrev pub fixed : List ℕ
fixed = 83 ∷ 83 ∷ 67 ∷ 66 ∷ 1 ∷ []

-- ---- bytes from fields

-- "Run: kind, a zero, count u16, first page u32"
unfoldable pub run_bytes : Run → List ℕ
run_bytes x = x.kind ∷ 0 ∷ (little 2 x.count ++ little 4 x.first)

-- "Entry: address u32, input length u16, output length u16"
unfoldable pub entry_bytes : Entry → List ℕ
entry_bytes x = little 4 x.address ++ (little 2 x.input ++ little 2 x.output)

-- "Trailer: the fixed bytes, r, e, zero, u32 distance back from the trailer to the first run, 8(r+e), u32 distance back to the first entry, 8e"
unfoldable pub trailer_bytes : ℕ → ℕ → List ℕ
trailer_bytes r e = fixed ++ ((r ∷ e ∷ 0 ∷ []) ++ (little 4 (item_size * (r + e)) ++ little 4 (item_size * e)))

abbrev pub run_bytes_at : Fields → ℕ → List ℕ
run_bytes_at f k = run_bytes (run_at f k)

abbrev pub entry_bytes_at : Fields → ℕ → List ℕ
entry_bytes_at f k = entry_bytes (entry_at f k)

-- "body first, trailer last"
unfoldable pub encode : Fields → List ℕ
encode f = joined f.r (run_bytes_at f) ++ (joined f.e (entry_bytes_at f) ++ trailer_bytes f.r f.e)

-- ---- fields from bytes

-- the run and the entry whose bytes begin at a place
abbrev pub run_in : List ℕ → ℕ → Run
run_in l at = record { kind = get_or l at 0; count = little_at 2 l (at + 2); first = little_at 4 l (at + 4) }

abbrev pub entry_in : List ℕ → ℕ → Entry
entry_in l at = record { address = little_at 4 l at; input = little_at 2 l (at + 4); output = little_at 2 l (at + 6) }

-- run k, and entry k after r runs
abbrev pub run_in_at : List ℕ → ℕ → Run
run_in_at l k = run_in l (item_size * k)

abbrev pub entry_in_at : List ℕ → ℕ → ℕ → Entry
entry_in_at l r k = entry_in l (item_size * r + item_size * k)

-- n places, of which those from i up to e hold g of their number and the others z
unfoldable pub placed : {A : Type 0} → ℕ → ℕ → ℕ → (ℕ → A) → A → List A
placed n i e g z = table (λ k. pick (leb i k && ltb k e) (g k) z) n

-- the fields of bytes with r runs and e entries; unused places are zero
unfoldable pub fields_at : List ℕ → ℕ → ℕ → Fields
fields_at l r e = fields_of r e (placed run_places 0 r (run_in_at l) no_run) (placed entry_places 0 e (entry_in_at l r) no_entry)
