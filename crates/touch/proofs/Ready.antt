-- What a well-formed state gives to the events' code.
use Prim.Native.Nat.{ℕ, ◌≤◌, ◌<◌}
use native.Mathlib.Omega.{arith}
use mathlib.Core.Path.{◌≡◌, refl, sym, ap, subst, ◌∙◌}
use mathlib.Core.Bool.{true}
use mathlib.Core.List.{[]}
use lib.ListN.{length, get_or}
use Rattle.lists.proofs.Logic.{decided}
use Rattle.geometry.specs.Geometry.{most_pages, slot_count, pcr_count, digest_size}
use Rattle.fields.specs.declared.Fields.{Fields}
use Rattle.fields.specs.Rules.{in_code}
use Rattle.fields.proofs.Facts.{Kept, kept}
use Rattle.state.specs.declared.Mode.{Mode}
use Rattle.state.specs.declared.Mode.TheVariants.{Legacy, Secure}
use Rattle.state.specs.declared.Slot.{Slot}
use Rattle.state.specs.declared.State.{State}
use Rattle.state.specs.Zero.{no_pcr, zero_running}
use Rattle.state.specs.Face.{face_of, card_at}
use Rattle.state.proofs.Shape.{DigestShape, SlotShape, each_in}
use Rattle.state.proofs.Faces.{card_at_lem}
use Rattle.wellformed.specs.WellFormed.{mode_right, state_right}
use Rattle.wellformed.proofs.Facts.{Right, right_of, card_rules, no_runs}
use Rattle.wellformed.proofs.Runs.{Runs, legacy_hold}
use Rattle.wellformed.proofs.States.{state_face}
use Rattle.rules.proofs.Facts.{running}
use Rattle.touch.specs.Carried.{IsSlot}

-- the card of a slot that the code has is the face's
pub card_is : (s : State) (k : ℕ) (x : Slot) → IsSlot s k x → x.card ≡ card_at (face_of s) k
card_is s k x e = ap (λ (y : Slot). y.card) e ∙ sym (card_at_lem s.slots k)

module _ (s : State) (h : state_right s ≡ true) where
  pub right : Right (face_of s)
  right = right_of (face_of s) (state_face s h)

  pub few_pages : s.pages ≤ most_pages
  few_pages = right.sizes.most

  -- in secure mode the mode's slot is registered, and the record is its own
  pub runs_in_lem : (k : ℕ) → s.mode ≡ Secure k → Runs (face_of s) k s.running
  runs_in_lem k e = running (face_of s) right k e

  pub mode_below : (k : ℕ) → s.mode ≡ Secure k → k < slot_count
  mode_below k e = (runs_in_lem k e).below

  -- in legacy mode the record is zero
  pub none_runs : s.mode ≡ Legacy → s.running ≡ zero_running
  none_runs e = legacy_hold (face_of s) (subst (λ (m : Mode). mode_right (face_of s) m ≡ true) e right.mode)

  -- a registered slot keeps the manifest's rules
  pub kept_in : (k : ℕ) → k < slot_count → (card_at (face_of s) k).registered ≡ true → Kept (card_at (face_of s) k).fields
  kept_in k l e = kept (card_at (face_of s) k).fields (card_rules (card_at (face_of s) k) _ (right.cards k l) e)

  pub few_runs : (k : ℕ) → k < slot_count → (card_at (face_of s) k).fields.r ≤ 4
  few_runs k l =
      let x = card_at (face_of s) k in
      decided x.registered
      (λ e. (kept_in k l e).bounds.few_runs)
      (λ e. omega (arith, no_runs x _ (right.cards k l) e))

  -- the same, of a slot that the code has
  pub few_runs_in : (k : ℕ) (x : Slot) → k < slot_count → IsSlot s k x → x.card.fields.r ≤ 4
  few_runs_in k x l e = rw (card_is s k x e) (few_runs k l)

-- a µPCR has its length
pub pcr_long : (x : Slot) → SlotShape x → (i : ℕ) → i < pcr_count → length (get_or x.pcrs i no_pcr).bytes ≡ digest_size
pcr_long x g i m = (each_in DigestShape no_pcr x.pcrs g.pcrs i (rw g.pcrs_long m)).long
