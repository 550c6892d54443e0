-- What the test goes over, and what it hands out.
use Rattle.std.specs.Prelude.{ℕ, ◌%◌, get_or, Option, Some, None}
use Rattle.lists.specs.Below.{pick}
use Rattle.geometry.specs.Geometry.{slot_count}
use Rattle.state.specs.declared.State.{State}
use Rattle.state.specs.Zero.{no_slot}
use Rattle.wellformed.specs.declared.Parts.{Parts}
use Rattle.wellformed.specs.declared.Sight.{Sight}
use Rattle.wellformed.specs.WellFormed.{state_right}

-- the state that the parts are of
abbrev pub state_in : Parts → State
state_in x = record { pages = x.pages; kept = x.kept; owner = x.owner.now; slots = x.slots.now; mode = x.mode; running = x.running }

abbrev pub all_seen : State → ℕ → ℕ → ℕ → Sight
all_seen s n p q = record { slot = get_or s.slots (n % slot_count) no_slot; page = get_or s.owner p 0; other = get_or s.owner q 0 }

-- of a well-formed state a slot and the owners of two pages, of another nothing
unfoldable pub seen_of : State → ℕ → ℕ → ℕ → Option Sight
seen_of s n p q = pick (state_right s) (Some (all_seen s n p q)) None
