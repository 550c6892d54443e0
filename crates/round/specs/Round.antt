-- What is promised of the manifest's two round trips.
use Rattle.std.specs.Prelude.{◌≡◌, true, List, ℕ, ◌≤◌, ◌<◌, length, get_or}
use Rattle.std.proofs.lemmas.List.Edits.{sets}
use Rattle.lists.specs.Bytes.{part}
use Rattle.fields.specs.declared.Fields.{Fields}
use Rattle.fields.specs.Fields.{run_places, entry_places}
use Rattle.fields.specs.Rules.{keeps_rules}
use Rattle.manifest.specs.Layout.{size_of, encode}
use Rattle.manifest.specs.Reader.{runs_in, entries_in, fields_in, accepts, read_manifest}
use Rattle.manifest.specs.Writer.{Outcome, outcome_of, write_manifest}

-- every element is a byte
abbrev pub Bytes : List ℕ → Type 0
Bytes l = (i : ℕ) → get_or l i 0 < 256

-- the arrays of the fields have their lengths
pub record Shaped (f : Fields) : Type 0 where
  pub four : length f.runs ≡ run_places
  pub eight : length f.entries ≡ entry_places

-- n bytes were written
abbrev pub took : ℕ → Outcome
took n = record { refusal = 0; bytes = n }

-- bytes that the reader accepts, their fields written to a buffer with room: they stand at its front, and nothing else has changed
abbrev pub ReadThenWritten : Type 0
ReadThenWritten =
    (l b : List ℕ) → Bytes l → (read_manifest l).refusal ≡ 0 → length l ≤ length b
    → (outcome_of (write_manifest (read_manifest l).fields b).answer ≡ took (length l)) × ((write_manifest (read_manifest l).fields b).buffer ≡ sets b 0 l)

-- fields written to a buffer with room, and the bytes of the answer read
abbrev pub WrittenThenRead : Type 0
WrittenThenRead =
    (f : Fields) (b : List ℕ) → Shaped f → keeps_rules f ≡ true → size_of f.r f.e ≤ length b
    → read_manifest (part (write_manifest f b).buffer 0 (outcome_of (write_manifest f b).answer).bytes) ≡ record { refusal = 0; fields = f }

-- bytes that are the encoding of fields that keep the rules
pub record Encoding (l : List ℕ) : Type 0 where
  pub fields : Fields
  pub shaped : Shaped fields
  pub rules : keeps_rules fields ≡ true
  pub bytes : encode fields ≡ l

abbrev pub AcceptsExactly : Type 0
AcceptsExactly = (l : List ℕ) → Bytes l → (accepts l ≡ true → Encoding l) × (Encoding l → accepts l ≡ true)

-- two manifests with the same fields are the same bytes
abbrev pub OneSpelling : Type 0
OneSpelling = (l m : List ℕ) → Bytes l → Bytes m → accepts l ≡ true → accepts m ≡ true → fields_in l ≡ fields_in m → l ≡ m

-- "Length is exactly 8(r+e)+16, so 40 to 112."
abbrev pub Lengths : Type 0
Lengths = (l : List ℕ) → accepts l ≡ true → (length l ≡ size_of (runs_in l) (entries_in l)) × ((40 ≤ length l) × (length l ≤ 112))
