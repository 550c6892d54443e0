-- What is in a µPCR, spelled out byte by byte (document 01, Register and Extend), beside the definitions that the rules use.
use Rattle.std.specs.Prelude.{ℕ, ◌≤◌, ◌<◌, ◌≡◌, ◌≢◌, List, ◌++◌, length, get_or}
use Rattle.lists.specs.Bytes.{zeros}
use Rattle.geometry.specs.Geometry.{digest_size, pcr_count}
use Rattle.sha_1.specs.declared.Digest.{Digest}
use Rattle.sha_1.specs.Sha1.{sha1}
use Rattle.state.specs.Zero.{no_pcr}
use Rattle.rules.specs.Act.{measured, extended}

-- Of a fresh codeblock µPCR 0 is SHA-1 of twenty zero bytes and then the measurement, which itself is SHA-1 of the content: two hashes, not one. The
-- other seven are twenty zero bytes.
pub record Measures (content : List ℕ) : Type 0 where
  pub eight : length (measured content) ≡ pcr_count
  pub first : (get_or (measured content) 0 no_pcr).bytes ≡ sha1 (zeros digest_size ++ sha1 content)
  pub others : (i : ℕ) → 1 ≤ i → i < pcr_count → (get_or (measured content) i no_pcr).bytes ≡ zeros digest_size

-- An extended µPCR is SHA-1 of its old bytes and then SHA-1 of what it is extended with; the others stay.
pub record Extends (pcrs : List Digest) (i : ℕ) (content : List ℕ) : Type 0 where
  pub same_count : length (extended pcrs i content) ≡ length pcrs
  pub there : i < length pcrs → (get_or (extended pcrs i content) i no_pcr).bytes ≡ sha1 ((get_or pcrs i no_pcr).bytes ++ sha1 content)
  pub others : (j : ℕ) → j ≢ i → get_or (extended pcrs i content) j no_pcr ≡ get_or pcrs j no_pcr

abbrev pub PcrsRight : Type 0
PcrsRight = ((content : List ℕ) → Measures content) × ((pcrs : List Digest) (i : ℕ) (content : List ℕ) → Extends pcrs i content)
