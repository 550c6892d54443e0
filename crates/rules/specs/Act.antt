-- A plan carried out, and the whole step.
use Rattle.std.specs.Prelude.{ℕ, List, [], ◌++◌, length, get_or, set, replicate}
use Rattle.std.proofs.lemmas.List.Edits.{sets}
use Rattle.lists.specs.Bytes.{part, wipe, gather}
use Rattle.geometry.specs.Geometry.{page_size, pcr_count}
use Rattle.memory.specs.Source.{chosen_of}
use Rattle.sha_1.specs.declared.Digest.{Digest}
use Rattle.sha_1.specs.Sha1.{sha1}
use Rattle.manifest.specs.Reader.{read_manifest}
use Rattle.state.specs.declared.State.{State}
use Rattle.state.specs.Zero.{zero_pcr, no_pcr}
use Rattle.state.specs.Face.{face_of, pcrs_of, state_of}
use Rattle.wellformed.specs.WellFormed.{well_formed}
use Rattle.events.specs.declared.Event.{Event}
use Rattle.events.specs.declared.Answer.{Answer}
use Rattle.rules.specs.Plan.{Fetch, nothing, bytes, pcr, Store, keep, put, move, clean, Seal, same, clear, extend, measure, Plan}
use Rattle.rules.specs.Decide.{decide}

-- ---- the answer buffer

abbrev pub fetched : Fetch → List (List Digest) → List ℕ → List ℕ → List ℕ
fetched nothing pcrs m buffer = buffer
fetched (bytes a n) pcrs m buffer = sets buffer 0 (part m a n)
fetched (pcr k i) pcrs m buffer = sets buffer 0 (get_or (get_or pcrs k []) i no_pcr).bytes

-- ---- memory

abbrev pub stored : Store → List ℕ → List ℕ → List ℕ
stored keep payload m = m
stored (put a) payload m = sets m a payload
stored (move a b n) payload m = sets m b (part m a n)
stored (clean pages) payload m = wipe page_size m pages

-- ---- µPCRs

-- "µPCR new = SHA-1(old, SHA-1(bytes))"
abbrev pub extended_by : Digest → List ℕ → Digest
extended_by old content = record { bytes = sha1 (old.bytes ++ sha1 content) }

unfoldable pub extended : List Digest → ℕ → List ℕ → List Digest
extended pcrs i content = set pcrs i (extended_by (get_or pcrs i no_pcr) content)

abbrev pub zero_pcrs : List Digest
zero_pcrs = replicate pcr_count zero_pcr

-- "All µPCRs are zero, then µPCR 0 becomes SHA-1(20 zero bytes, measurement), where the measurement is SHA-1 of the contents of its pages in run order."
unfoldable pub measured : List ℕ → List Digest
measured content = set zero_pcrs 0 (extended_by zero_pcr content)

abbrev pub sealed : Seal → List ℕ → List ℕ → List (List Digest) → List (List Digest)
sealed same payload m pcrs = pcrs
sealed (clear k) payload m pcrs = set pcrs k zero_pcrs
sealed (extend k i source a n) payload m pcrs = set pcrs k (extended (get_or pcrs k []) i (chosen_of payload m source a n))
sealed (measure k pages) payload m pcrs = set pcrs k (measured (gather page_size m pages))

-- ---- the step

pub record World : Type 0 where
  pub state : State
  pub memory : List ℕ

pub record Out : Type 0 where
  pub answer : Answer
  pub state : State
  pub memory : List ℕ
  pub buffer : List ℕ

abbrev pub act : Plan → List ℕ → List ℕ → List (List Digest) → List ℕ → Out
act p payload buffer pcrs m = record {
  answer = p.answer;
  state = state_of p.next (sealed p.seal payload m pcrs);
  memory = stored p.store payload m;
  buffer = fetched p.fetch pcrs m buffer;
}

-- what is decided on a state, with memory of so many bytes
abbrev pub plan_of : State → ℕ → ℕ → List ℕ → Event → Plan
plan_of s size room payload e = decide (face_of s) (well_formed s size) room (length payload) (read_manifest payload) e

-- what an event does: document 01's whole rule
unfoldable pub step : State → List ℕ → Event → List ℕ → List ℕ → Out
step s m e payload buffer = act (plan_of s (length m) (length buffer) payload e) payload buffer (pcrs_of s) m
