use Rattle.fields.specs.declared.Entry.{Entry}
use Rattle.call.proofs.Calls.{Named, call_8, call_on, sought_k, sought_below, sought_slot, sought_past, entry_by, found_entry, found_some}
use Rattle.call.specs.Sought.{sought_in}
use Rattle.change.proofs.Settled.{to_plan, still_settles}
use Rattle.wellformed.proofs.States.{well_state}
use Rattle.wellformed.specs.WellFormed.{well_formed}
use Rattle.rules.specs.Decide.{call_entry, entry_for}
use Rattle.rules.specs.Tests.{slot_for}
use Rattle.rules.specs.Plan.{nothing}
use Rattle.events.specs.declared.Answer.TheVariants as answer
use Rattle.events.specs.declared.Refusal.TheVariants.{NotFound}
use Rattle.state.proofs.Shaped.{state_shape}
use Rattle.state.specs.Face.{face_of}
use Rattle.state.specs.Zero.{no_slot}
use Rattle.state.specs.declared.State.{State}
use Rattle.std.specs.Prelude.{Some}
use Rattle.state.specs.Slots.{entry_found}
use Rattle.touch.specs.Carried.{IsSlot}
use Rattle.call.specs.declared.places.Sought.{Sought}
use lib.ListN.{get_or}
use Rattle.geometry.specs.Geometry.{slot_count}
use Prim.Native.Nat.{ℕ, ◌<◌}
use borrow.Author.Tests.{lt-ltb}
use mathlib.Core.Bool.{true}
use mathlib.Core.Path.{◌≡◌, sym, ap, ◌∙◌}
use native.Mathlib.Omega.{arith}
use Rattle.call.proofs.call.call.Goals as goal

-- past the branch a slot is found
module _ (s : State) (n mark address : ℕ) (w : well_formed s n ≡ true) (x : Sought) (e : Some x ≡ sought_in s (slot_for (face_of s) mark address)) where
  number : x.k ≡ slot_for (face_of s) mark address
  number = sought_k s _ x e

  below : x.k < slot_count
  below = sought_below s _ x e

  is_slot : IsSlot s x.k x.slot
  is_slot = sought_slot s _ x e

  -- what the slot has at the address, the state's slot has
  same_entry : entry_found (get_or s.slots x.k no_slot).card address ≡ entry_found x.slot.card address
  same_entry = entry_by s x.k x.slot address is_slot

  named : (y : Entry) → entry_found x.slot.card address ≡ Some y → Named s address x.k y
  named y g = found_entry s (well_state s n w) mark address x.k number below y (same_entry ∙ g)

pub slot_for-requires : goal.slot_for-requires
slot_for-requires c = well_state c.args.s _ c.requires.0

pub returns-in_default : goal.returns-in_default
returns-in_default c = λ payload.
    let a = c.args in
    let f = face_of a.s in
    rw (call_8 f a.mark a.address a.input a.output (sought_past a.s _ (sym c.in_default.is ∙ c.slot_for.ensures)))
    (still_settles a.s (state_shape a.s _ c.well_formed.0).slots_long nothing (answer.Refused NotFound) payload a.memory.now _ c.kept.ensures)

pub call_entry-requires : goal.call_entry-requires
call_entry-requires c =
    let a = c.args in
    let x = c.in-Some.found in
    let o = c.in-Some.ensures in
    let g = named a.s _ a.mark a.address c.requires.0 x o _ (sym c.entry_found.ensures ∙ c.in-Some-entry_found.is) in
    (c.requires.0, (c.requires.1, ((below a.s _ a.mark a.address c.requires.0 x o, is_slot a.s _ a.mark a.address c.requires.0 x o), (g.registered, g.input))))

pub returns-in-Some-entry_found : goal.returns-in-Some-entry_found
returns-in-Some-entry_found c = λ payload.
    let a = c.args in
    let f = face_of a.s in
    let x = c.in-Some.found in
    let o = c.in-Some.ensures in
    let n = number a.s _ a.mark a.address c.requires.0 x o in
    let g = named a.s _ a.mark a.address c.requires.0 x o _ (sym c.entry_found.ensures ∙ c.in-Some-entry_found.is) in
    to_plan
    (ap (λ (y : Entry). call_entry f x.k y a.input a.output) g.is ∙ ap (λ (j : ℕ). call_entry f j (entry_for f j a.address) a.input a.output) n
    ∙ sym (call_on f a.mark a.address a.input a.output (lt-ltb (slot_for f a.mark a.address) slot_count (omega (arith, below a.s _ a.mark a.address c.requires.0 x o, n)))))
    payload a.s a.memory.now (c.call_entry.ensures payload)

pub returns-in-None : goal.returns-in-None
returns-in-None c = λ payload.
    let a = c.args in
    let x = c.in-Some.found in
    let o = c.in-Some.ensures in
    let n = number a.s _ a.mark a.address c.requires.0 x o in
    let t = same_entry a.s _ a.mark a.address c.requires.0 x o in
    absurd (found_some a.s (well_state a.s _ c.requires.0) a.mark a.address x.k n (below a.s _ a.mark a.address c.requires.0 x o) (t ∙ sym c.entry_found.ensures ∙ c.in-None.is))
