-- The slot that a call names.
use Rattle.std.specs.Prelude.{ℕ, get_or, ltb, Bool, ◌&&◌, cond, Option, Some, None}
use Rattle.std.specs.Option.{is_some}
use Rattle.geometry.specs.Geometry.{slot_count}
use Rattle.state.specs.declared.Card.{Card}
use Rattle.state.specs.declared.State.{State}
use Rattle.state.specs.Slots.{entry_found}
use Rattle.state.specs.Zero.{no_slot}
use Rattle.rules.specs.Tests.{under_mark}
use Rattle.call.specs.declared.places.Sought.{Sought}

-- a card registered under the mark, with an entry at the address, as the code asks it
abbrev pub callable_in : Card → ℕ → ℕ → Bool
callable_in x mark a = under_mark x mark && is_some (entry_found x a)

-- slot k of the state, where there is one of that number
abbrev pub sought_in : State → ℕ → Option Sought
sought_in s k = cond (ltb k slot_count) (Some (record { k = k; slot = get_or s.slots k no_slot })) None
