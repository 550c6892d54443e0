-- The test's three steps: the sizes, each slot, and the rest.
use Rattle.std.specs.Prelude.{ℕ, ◌+◌, ◌-◌, ◌%◌, Bool, ◌&&◌, List, get_or, Option, Some, None}
use Rattle.lists.specs.Below.{pick, all_below}
use Rattle.geometry.specs.Geometry.{most_pages, slot_count}
use Rattle.painting.specs.Painting.{painted, painted_runs, owned_run, alike}
use Rattle.state.specs.declared.Card.{Card}
use Rattle.state.specs.declared.Slot.{Slot}
use Rattle.state.specs.declared.State.{State}
use Rattle.state.specs.Zero.{no_slot}
use Rattle.wellformed.specs.WellFormed.{sizes_right, monitors}
use Rattle.wellformed.specs.Tests.{slot_right, mode_test}

-- the sizes: the first of the monitor's pages
abbrev pub begun_of : ℕ → ℕ → Option ℕ
begun_of p m = pick (sizes_right p m) (Some (p - m)) None

-- the monitor's pages, painted
abbrev pub begun_table : ℕ → ℕ → List ℕ → List ℕ
begun_table p m t = pick (sizes_right p m) (painted t (p - m) m monitors) t

-- slot k, which holds x
abbrev pub tried_of : Slot → ℕ → ℕ → List ℕ → Bool
tried_of x k top owner = slot_right x top && all_below x.card.fields.r (owned_run owner x.card.fields.runs (k + 1))

-- its pages, painted
abbrev pub tried_table : Slot → ℕ → ℕ → List ℕ → List ℕ
tried_table x k top t = pick (slot_right x top) (painted_runs t x.card.fields.runs (k + 1) x.card.fields.r) t

-- the card of the slot that the running record names
abbrev pub running_card : State → Card
running_card s = (get_or s.slots (s.running.slot % slot_count) no_slot).card

-- the table, the mode and the running record
abbrev pub compared_of : State → List ℕ → Bool
compared_of s t = all_below most_pages (alike t s.owner) && mode_test s.mode s.running (running_card s) s.owner s.pages
