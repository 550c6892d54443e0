-- What the test handed out is what the event looks at.
use Prim.Native.Nat.{ℕ, ◌%◌, ◌<◌}
use native.Mathlib.Omega.{arith}
use mathlib.Core.Path.{◌≡◌, ap, ◌∙◌}
use mathlib.Core.Bool.{true, false}
use lib.ListN.{get_or}
use borrow.Author.Tests.{eq-eqb, ne_eqb}
use Rattle.std.specs.Prelude.{Some, None}
use Rattle.geometry.specs.Geometry.{slot_count, start_of}
use Rattle.state.specs.declared.Mode.{Mode}
use Rattle.state.specs.declared.State.{State}
use Rattle.state.specs.Zero.{no_slot}
use Rattle.events.specs.declared.Event.{Event}
use Rattle.wellformed.specs.declared.Sight.{Sight}
use Rattle.wellformed.specs.WellFormed.{state_right, well_formed}
use Rattle.wellformed.proofs.Sights.{seen_wrong, seen_so}
use Rattle.touch.specs.Carried.{Owned, IsSlot, Runs}
use Rattle.touch.proofs.Ready.{mode_below}
use Rattle.decide.specs.Allowed.{slot_in}
use Rattle.decide.specs.declared.Look.{Look}
use Rattle.decide.specs.Looks.{looks, looking, looked, Sees}

module _ (s : State) (e : Event) (x : Sight) (h : Sees s e x) (d : Event) (q : e ≡ d) where
  pub at_page : Owned s (looks d (slot_in s.mode)).page x.page
  at_page = ap (λ (y : Sight). y.page) h ∙ ap (λ (f : Event). get_or s.owner (looks f (slot_in s.mode)).page 0) q

  pub at_other : Owned s (looks d (slot_in s.mode)).other x.other
  at_other = ap (λ (y : Sight). y.other) h ∙ ap (λ (f : Event). get_or s.owner (looks f (slot_in s.mode)).other 0) q

  pub at_slot : IsSlot s ((looks d (slot_in s.mode)).slot % slot_count) x.slot
  at_slot = ap (λ (y : Sight). y.slot) h ∙ ap (λ (f : Event). get_or s.slots ((looks f (slot_in s.mode)).slot % slot_count) no_slot) q

module _ (s : State) (x : Sight) where
  -- of a number below 8
  pub slot_below : (k : ℕ) → IsSlot s (k % slot_count) x.slot → k < slot_count → IsSlot s k x.slot
  slot_below k e l = let q : k % slot_count ≡ k = omega arith in e ∙ ap (λ (j : ℕ). get_or s.slots j no_slot) q

  -- the slot that runs
  pub slot_runs : state_right s ≡ true → IsSlot s (slot_in s.mode % slot_count) x.slot → Runs s x.slot
  slot_runs h e k m = slot_below k (e ∙ ap (λ (y : Mode). get_or s.slots (slot_in y % slot_count) no_slot) m) (mode_below s h k m)

-- ---- check 1

module _ (s : State) (n : ℕ) where
  pub not_right : state_right s ≡ false → well_formed s n ≡ false
  unfolding well_formed
  not_right h = rw h

  pub not_long : state_right s ≡ true → (n ≡ start_of s.pages → ⊥) → well_formed s n ≡ false
  unfolding well_formed
  not_long h d = rw (h, ne_eqb n (start_of s.pages) d)

  pub well : state_right s ≡ true → n ≡ start_of s.pages → well_formed s n ≡ true
  unfolding well_formed
  well h e = rw (h, eq-eqb n (start_of s.pages) e)

module _ (s : State) (e : Event) where
  abbrev l : Look
  l = looking e s.mode

  pub nothing : None ≡ looked e s → state_right s ≡ false
  unfolding looked
  nothing h = seen_wrong s l.slot l.page l.other h

  pub something : (x : Sight) → Some x ≡ looked e s → state_right s ≡ true
  unfolding looked
  something x h = (seen_so s l.slot l.page l.other x h).0

  pub sees : (x : Sight) → Some x ≡ looked e s → Sees s e x
  unfolding looked
  sees x h = (seen_so s l.slot l.page l.other x h).1
