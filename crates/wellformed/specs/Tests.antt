-- What the code tests at once: of a slot its card and its µPCRs; of the running record the card that is at hand.
use Rattle.std.specs.Prelude.{ℕ, ◌-◌, Bool, ◌&&◌, ◌||◌, List, get_or, ltb, eqb}
use Rattle.lists.specs.Below.{pick, any_below}
use Rattle.geometry.specs.Geometry.{slot_count, is_range, page_of}
use Rattle.state.specs.declared.Card.{Card}
use Rattle.state.specs.declared.Slot.{Slot}
use Rattle.state.specs.declared.Mode.{Mode}
use Rattle.state.specs.declared.Mode.TheVariants.{Legacy, Secure}
use Rattle.state.specs.declared.Running.{Running}
use Rattle.state.specs.declared.State.{State}
use Rattle.state.specs.Zero.{no_slot}
use Rattle.wellformed.specs.WellFormed.{card_right, pcrs_zero, running_zero, output_at}

abbrev pub slot_right : Slot → ℕ → Bool
slot_right x top = card_right x.card top && (x.card.registered || pcrs_zero x.pcrs)

abbrev pub slot_right_at : State → ℕ → Bool
slot_right_at s k = slot_right (get_or s.slots k no_slot) (s.pages - s.kept)

-- `out_right`, of a table and P
abbrev pub out_test : List ℕ → ℕ → ℕ → ℕ → Bool
out_test owner pages a n = pick (eqb n 0) (eqb a 0) (is_range pages a n && (ltb (page_of a) pages && eqb (get_or owner (page_of a) 0) 0))

abbrev pub running_test : ℕ → Running → Card → List ℕ → ℕ → Bool
running_test k x card owner pages =
    (eqb x.slot k && (ltb k slot_count && card.registered))
    && (any_below card.fields.e (output_at card.fields x.length) && out_test owner pages x.out x.length)

abbrev pub mode_test : Mode → Running → Card → List ℕ → ℕ → Bool
mode_test Legacy x card owner pages = running_zero x
mode_test (Secure k) x card owner pages = running_test k x card owner pages
