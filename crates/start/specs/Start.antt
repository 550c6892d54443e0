-- "Start takes P and M and gives the well-formed state in legacy mode with all slots free; out of range is refusal 4, with an all-zero state."
use Rattle.std.specs.Prelude.{ℕ, ◌-◌, List, replicate, ltb, Some, None}
use Rattle.lists.specs.Below.{pick, table}
use Rattle.geometry.specs.Geometry.{most_pages, slot_count}
use Rattle.state.specs.declared.State.{State}
use Rattle.state.specs.declared.Mode.TheVariants.{Legacy}
use Rattle.state.specs.Zero.{zero_slot, zero_running, zero_state}
use Rattle.wellformed.specs.WellFormed.{sizes_right, monitors}
use Rattle.events.specs.declared.Refusal.TheVariants.{OutOfRange}
use Rattle.start.specs.declared.Started.{Started}

-- page i of a fresh machine of p pages, the top m of them the monitor's
abbrev pub fresh_owner : ℕ → ℕ → ℕ → ℕ
fresh_owner p m i = pick (ltb i (p - m)) 0 (pick (ltb i p) monitors 0)

-- p pages, m of them the monitor's, that owner table, all slots free, in legacy mode
abbrev pub bare : ℕ → ℕ → List ℕ → State
bare p m owner = record { pages = p; kept = m; owner = owner; slots = replicate slot_count zero_slot; mode = Legacy; running = zero_running }

unfoldable pub fresh_state : ℕ → ℕ → State
fresh_state p m = bare p m (table (fresh_owner p m) most_pages)

unfoldable pub start_of : ℕ → ℕ → Started
start_of p m = pick (sizes_right p m) (record { refusal = None; state = fresh_state p m }) (record { refusal = Some OutOfRange; state = zero_state })
