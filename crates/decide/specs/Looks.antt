-- Where each event looks.
use Rattle.std.specs.Prelude.{ℕ, ◌≡◌, Option}
use Rattle.geometry.specs.Geometry.{page_of}
use Rattle.state.specs.declared.Mode.{Mode}
use Rattle.state.specs.declared.State.{State}
use Rattle.events.specs.declared.Event.{Event}
use Rattle.events.specs.declared.Event.TheVariants.{Register, Unregister, Call, Return, Jump, Read, Write, DeviceRead, DeviceWrite, Extend, PcrRead}
use Rattle.wellformed.specs.declared.Sight.{Sight}
use Rattle.wellformed.specs.Seen.{all_seen, seen_of}
use Rattle.decide.specs.declared.Look.{Look}
use Rattle.decide.specs.Allowed.{slot_in}

abbrev pub at : ℕ → ℕ → Look
at k p = record { slot = k; page = p; other = 0 }

-- k is the slot that runs
abbrev pub looks : Event → ℕ → Look
looks (Register mark) k = at k 0
looks (Unregister mark n) k = at n 0
looks (Call mark a i o) k = record { slot = k; page = page_of i; other = page_of o }
looks Return k = at k 0
looks (Jump a) k = at k (page_of a)
looks (Read a n) k = at k (page_of a)
looks (Write a) k = at k (page_of a)
looks (DeviceRead a n) k = at k (page_of a)
looks (DeviceWrite a) k = at k (page_of a)
looks (Extend i source a n) k = at k (page_of a)
looks (PcrRead i) k = at k 0

-- where the event looks in a mode
abbrev pub looking : Event → Mode → Look
looking e m = looks e (slot_in m)

-- what is seen of a well-formed state there
abbrev pub seen_at : State → Look → Sight
seen_at s l = all_seen s l.slot l.page l.other

-- and of any
abbrev pub seen_in : State → Look → Option Sight
seen_in s l = seen_of s l.slot l.page l.other

unfoldable pub looked : Event → State → Option Sight
looked e s = seen_in s (looking e s.mode)

abbrev pub Sees : State → Event → Sight → Type 0
Sees s e x = x ≡ seen_at s (looking e s.mode)
