-- "An accepted answer of n bytes (reads) fills the first n bytes of the buffer and no others; other answers touch none."
use Rattle.std.specs.Prelude.{ℕ, ◌≤◌, ◌≡◌, List, [], ◌++◌, length, get_or, drop}
use Rattle.lists.specs.Bytes.{part}
use Rattle.geometry.specs.Geometry.{digest_size}
use Rattle.sha_1.specs.declared.Digest.{Digest}
use Rattle.state.specs.declared.Mode.{Mode}
use Rattle.state.specs.declared.Mode.TheVariants.{Legacy, Secure}
use Rattle.state.specs.declared.State.{State}
use Rattle.state.specs.Zero.{no_pcr}
use Rattle.state.specs.Face.{pcrs_of}
use Rattle.state.proofs.Shape.{StateShape}
use Rattle.events.specs.declared.Event.{Event}
use Rattle.events.specs.declared.Event.TheVariants.{Register, Unregister, Call, Return, Jump, Read, Write, DeviceRead, DeviceWrite, Extend, PcrRead}
use Rattle.events.specs.Answers.{told_by, fills}
use Rattle.rules.specs.Act.{Out, step}

-- the rule's n: how many bytes an accepted event answers
abbrev pub asked : Event → ℕ
asked (Register mark) = 0
asked (Unregister mark k) = 0
asked (Call mark a i o) = 0
asked Return = 0
asked (Jump a) = 0
asked (Read a n) = n
asked (Write a) = 0
asked (DeviceRead a n) = n
asked (DeviceWrite a) = 0
asked (Extend i source a n) = 0
asked (PcrRead i) = digest_size

abbrev pub running_pcr : Mode → List (List Digest) → ℕ → List ℕ
running_pcr Legacy pcrs i = []
running_pcr (Secure k) pcrs i = (get_or (get_or pcrs k []) i no_pcr).bytes

-- which bytes: those of memory that are read, or a µPCR of the slot that runs
abbrev pub wanted : Mode → List (List Digest) → List ℕ → Event → List ℕ
wanted mode pcrs m (Register mark) = []
wanted mode pcrs m (Unregister mark k) = []
wanted mode pcrs m (Call mark a i o) = []
wanted mode pcrs m Return = []
wanted mode pcrs m (Jump a) = []
wanted mode pcrs m (Read a n) = part m a n
wanted mode pcrs m (Write a) = []
wanted mode pcrs m (DeviceRead a n) = part m a n
wanted mode pcrs m (DeviceWrite a) = []
wanted mode pcrs m (Extend i source a n) = []
wanted mode pcrs m (PcrRead i) = running_pcr mode pcrs i

-- the answer's n is the rule's and fits; the buffer begins with these n bytes, and goes on as it did
pub record Fills (s : State) (m : List ℕ) (e : Event) (given : List ℕ) (o : Out) : Type 0 where
  pub count : fills o.answer ≡ asked e
  pub fits : asked e ≤ length given
  pub long : length (wanted s.mode (pcrs_of s) m e) ≡ asked e
  pub buffer : o.buffer ≡ wanted s.mode (pcrs_of s) m e ++ drop (asked e) given

-- Whatever the state that its types allow, the memory, the event, its payload and the buffer: where the event is accepted, its answer counts the rule's
-- n bytes, and the buffer is these n bytes and then its own bytes from n on. Where n is 0 that is the buffer as it came. A refusal leaves the buffer
-- as it came, by `RefusalsKeep`.
abbrev pub AnswersFill : Type 0
AnswersFill =
    (s : State) (m : List ℕ) (e : Event) (payload buffer : List ℕ) → StateShape s
    → (told_by (step s m e payload buffer).answer).number ≡ 0 → Fills s m e buffer (step s m e payload buffer)
