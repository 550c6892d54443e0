-- What start gives C: the definition of start, through the twin.
use Rattle.std.specs.Prelude.{ℕ}
use Rattle.events.specs.Refusals.{told_as}
use Rattle.start.specs.declared.Started.{Started}
use Rattle.start.specs.Start.{start_of}
use Rattle.twin.specs.Twin.{shut_of}
use Rattle.twin.specs.declared.Monitor.{Monitor}

-- a state, and 0 or the refusal
pub record Begun : Type 0 where
  pub monitor : Monitor
  pub number : ℕ

abbrev pub begun : Started → Begun
begun s = record { monitor = shut_of s.state; number = told_as s.refusal }

unfoldable pub host_start : ℕ → ℕ → Begun
host_start p k = begun (start_of p k)
