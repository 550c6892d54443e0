-- "The top M pages are the monitor's. No event reads or writes them."
use Rattle.std.specs.Prelude.{ℕ, ◌-◌, ◌≤◌, ◌<◌, ◌≡◌, List, [], ◌∷◌, length, get_or}
use Rattle.geometry.specs.Geometry.{start_of}
use Rattle.state.specs.declared.State.{State}
use Rattle.events.specs.declared.Answer.{Answer}
use Rattle.rules.specs.Act.{World, Out, step}
use Rattle.preserved.specs.Preserved.{Well, Ask, after_one, after}

-- the address of the first byte of the monitor's pages
abbrev pub monitor_from : State → ℕ
monitor_from s = start_of (s.pages - s.kept)

-- Whatever the events, from a well-formed state with its memory: every byte of the monitor's pages is what it was.
abbrev pub MonitorKept : Type 0
MonitorKept =
    (w : World) (xs : List Ask) → Well w.state w.memory
    → (i : ℕ) → monitor_from w.state ≤ i → get_or (after w xs).memory i 0 ≡ get_or w.memory i 0

-- two memories that differ at most from an address on
pub record AlikeBelow (t : ℕ) (m m' : List ℕ) : Type 0 where
  pub long : length m ≡ length m'
  pub same : (i : ℕ) → i < t → get_or m i 0 ≡ get_or m' i 0

-- what an event shows: its answer, the state and the answer buffer
pub record Shown : Type 0 where
  pub answer : Answer
  pub state : State
  pub buffer : List ℕ

abbrev pub shown_by : Out → Shown
shown_by o = record { answer = o.answer; state = o.state; buffer = o.buffer }

abbrev pub shown : World → List Ask → List Shown
shown w [] = []
shown w (x ∷ xs) = shown_by (step w.state w.memory x.event x.payload x.buffer) ∷ shown (after_one w x) xs

-- Whatever the events, from one well-formed state with two memories that differ at most in the monitor's pages: every answer, every state and every
-- buffer is the same, and the memories go on to differ there at most.
pub record Unseen (s : State) (m m' : List ℕ) (xs : List Ask) : Type 0 where
  pub shows : shown (record { state = s; memory = m }) xs ≡ shown (record { state = s; memory = m' }) xs
  pub memories : AlikeBelow (monitor_from s) (after (record { state = s; memory = m }) xs).memory (after (record { state = s; memory = m' }) xs).memory

abbrev pub MonitorUnseen : Type 0
MonitorUnseen = (s : State) (m m' : List ℕ) (xs : List Ask) → Well s m → AlikeBelow (monitor_from s) m m' → Unseen s m m' xs
