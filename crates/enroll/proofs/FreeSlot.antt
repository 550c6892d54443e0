-- The place of the first free slot is the rule's number.
use Prim.Native.Nat.{ℕ}
use mathlib.Core.Path.{◌≡◌, ap}
use mathlib.Core.Bool.{not, false, true}
use lib.ListN.{length}
use lib.Dec.{ltb}
use Rattle.std.specs.Prelude.{Some, None, position}
use Rattle.lists.specs.Places.{if_below}
use Rattle.lists.proofs.Logic.{decided}
use Rattle.lists.proofs.Places.{position_first}
use Rattle.geometry.specs.Geometry.{slot_count}
use Rattle.state.specs.declared.Card.{Card}
use Rattle.state.specs.declared.Slot.{Slot}
use Rattle.state.specs.declared.State.{State}
use Rattle.state.specs.Zero.{no_slot}
use Rattle.state.specs.Face.{face_of}
use Rattle.state.proofs.Faces.{card_at_lem}
use Rattle.rules.specs.Tests.{free_at, free_slot}

pub free_place : (s : State) → length s.slots ≡ slot_count → position (λ (x : Slot). not x.card.registered) s.slots ≡ if_below slot_count (free_slot (face_of s))
unfolding free_slot
free_place s e =
    position_first (λ (x : Slot). not x.card.registered) no_slot (free_at (face_of s)) s.slots
    (λ k l. ap (λ (x : Card). not x.registered) (card_at_lem s.slots k)) slot_count e

-- what was found, and what was not
module _ (n j : ℕ) where
  pub found_at : (k : ℕ) → Some k ≡ if_below n j → (k ≡ j) × (ltb j n ≡ true)
  found_at k e =
      decided (ltb j n)
      (λ t. let q = rw t at e in (cc, t))
      (λ t. let q = rw t at e in cc)

  pub not_found : None ≡ if_below n j → ltb j n ≡ false
  not_found e =
      decided (ltb j n)
      (λ t. let q = rw t at e in cc)
      (λ t. t)
