-- The state and its twin for C, each out of the other.
use Rattle.std.specs.Prelude.{ℕ, ◌+◌, ◌-◌, eqb}
use Rattle.lists.specs.Below.{pick}
use Rattle.state.specs.declared.State.{State}
use Rattle.state.specs.declared.Mode.{Mode}
use Rattle.state.specs.declared.Mode.TheVariants.{Legacy, Secure}
use Rattle.twin.specs.declared.Monitor.{Monitor}

-- 0 is legacy, n + 1 secure in slot n
abbrev pub mode_of : ℕ → Mode
mode_of m = pick (eqb m 0) Legacy (Secure (m - 1))

-- the greatest 64-bit number, which has no successor there; no mode that `mode_of` gives has it
abbrev pub last : ℕ
last = 18446744073709551615

abbrev pub number_of : Mode → ℕ
number_of Legacy = 0
number_of (Secure k) = pick (eqb k last) 0 (k + 1)

abbrev pub opened_of : Monitor → State
opened_of m = record { pages = m.pages; kept = m.kept; owner = m.owner; slots = m.slots; mode = mode_of m.mode; running = m.running }

abbrev pub shut_of : State → Monitor
shut_of s = record { pages = s.pages; kept = s.kept; owner = s.owner; slots = s.slots; mode = number_of s.mode; running = s.running }
