-- The loop over the slots: what is known after k of them, and the whole test.
use Prim.Native.Nat.{ℕ, ◌+◌, ◌-◌, ◌%◌, ◌≤◌, ◌<◌}
use native.Mathlib.Nat.{le_antisymm}
use native.Mathlib.Numerals.{add-one}
use native.Mathlib.Omega.{arith}
use mathlib.Core.Path.{◌≡◌, sym, ap, subst, ◌∙◌}
use mathlib.Core.Bool.{Bool, true, false, ◌&&◌, and-false}
use mathlib.Core.List.{List}
use lib.ListN.{get_or, replicate}
use Rattle.std.specs.Prelude.{Some, None}
use Rattle.lists.specs.Below.{all_below}
use Rattle.lists.proofs.Logic.{decided, and_l, and_r}
use Rattle.lists.proofs.All.{all_none, all_more, all_stop}
use Rattle.geometry.specs.Geometry.{most_pages, slot_count}
use Rattle.fields.specs.Fields.{entry_places}
use Rattle.painting.specs.Painting.{painted, painted_runs, owned_run, alike}
use Rattle.state.specs.declared.Card.{Card}
use Rattle.state.specs.declared.State.{State}
use Rattle.state.specs.Zero.{no_slot}
use Rattle.state.specs.Face.{face_of}
use Rattle.state.proofs.Faces.{card_at_lem}
use Rattle.wellformed.specs.WellFormed.{sizes_right, monitors, state_right}
use Rattle.wellformed.specs.Tests.{slot_right_at}
use Rattle.wellformed.specs.Steps.{begun_of, begun_table, tried_of, tried_table, running_card, compared_of}
use Rattle.wellformed.proofs.Facts.{Sizes, sizes_hold, sizes_of}
use Rattle.wellformed.proofs.Pages.{fields_at, painted_to, owned_slot, pages_fast, pages_same}
use Rattle.wellformed.proofs.Slots.{cards_of, card_of_lem, entries_few, mode_same, state_parts}

-- so far all is right
pub record Gone (s : State) (t : List ℕ) (k : ℕ) : Type 0 where
  pub sizes : Sizes s.pages s.kept
  pub slots : true ≡ all_below k (slot_right_at s)
  pub owned : true ≡ all_below k (owned_slot (face_of s))
  pub paint : t ≡ painted_to (face_of s) k

module _ (s : State) where
  -- the sizes
  pub begun_wrong : None ≡ begun_of s.pages s.kept → state_right s ≡ false
  begun_wrong h =
      decided (sizes_right s.pages s.kept)
      (λ q. let h' : None ≡ Some (s.pages - s.kept) = rw q at h in let z : ◌≡◌ {A = ℕ} 0 1 = cc in absurd (omega arith))
      (λ q. rw (state_parts s, q))

  pub begun_right : (t : List ℕ) (top : ℕ) → Some top ≡ begun_of s.pages s.kept → t ≡ begun_table s.pages s.kept (replicate most_pages 0)
      → (top ≡ s.pages - s.kept) × Gone s t 0
  unfolding painted_to
  begun_right t top h e =
      decided (sizes_right s.pages s.kept)
      (λ q. let h' : Some top ≡ Some (s.pages - s.kept) = rw q at h in
      let e' : t ≡ painted (replicate most_pages 0) (s.pages - s.kept) s.kept monitors = rw q at e in
      (cc, record { sizes = sizes_hold s.pages s.kept q; slots = all_none (slot_right_at s); owned = all_none (owned_slot (face_of s)); paint = e' }))
      (λ q. let h' : Some top ≡ None = rw q at h in let z : ◌≡◌ {A = ℕ} 0 1 = cc in absurd (omega arith))

  module _ (k : ℕ) (t : List ℕ) (top : ℕ) (at : top ≡ s.pages - s.kept) (g : Gone s t k) where
    abbrev card : Card
    card = (get_or s.slots k no_slot).card

    own_same : owned_slot (face_of s) k ≡ all_below card.fields.r (owned_run s.owner card.fields.runs (k + 1))
    own_same = ap (λ (y : Card). all_below y.fields.r (owned_run s.owner y.fields.runs (k + 1))) (card_at_lem s.slots k)

    -- a slot whose pages are not all its own
    not_own : k < slot_count → owned_slot (face_of s) k ≡ false → state_right s ≡ false
    unfolding pages_fast
    not_own l h =
        decided (all_below slot_count (slot_right_at s))
        (λ r. rw (state_parts s, sizes_of s.pages s.kept g.sizes, r, ← pages_same (face_of s) g.sizes (cards_of s r), ← all_stop (owned_slot (face_of s)) slot_count k l h))
        (λ r. rw (state_parts s, r, and-false))

    -- slot k
    pub tried_wrong : k < slot_count → false ≡ tried_of (get_or s.slots k no_slot) k top s.owner → state_right s ≡ false
    tried_wrong l h =
        decided (slot_right_at s k)
        (λ q. not_own l (own_same ∙ sym (rw (at, q) at h)))
        (λ q. rw (state_parts s, ← all_stop (slot_right_at s) slot_count k l q, and-false))

    pub tried_right : (w : List ℕ) → true ≡ tried_of (get_or s.slots k no_slot) k top s.owner → w ≡ tried_table (get_or s.slots k no_slot) k top t → Gone s w (k + 1)
    unfolding painted_to
    tried_right w h e =
        let q : slot_right_at s k ≡ true = and_l (slot_right_at s k) _ (sym (rw at at h)) in
        let o = and_r (slot_right_at s k) _ (sym (rw at at h)) in
        let e' : w ≡ painted_runs t card.fields.runs (k + 1) card.fields.r = rw (at, q) at e in
        record {
          sizes = g.sizes;
          slots = all_more (slot_right_at s) k g.slots q;
          owned = all_more (owned_slot (face_of s)) k g.owned (own_same ∙ o);
          paint =
              rw add-one
              (e' ∙ ap (λ (y : Card). painted_runs t y.fields.runs (k + 1) y.fields.r) (sym (card_at_lem s.slots k))
              ∙ ap (λ (l : List ℕ). painted_runs l (fields_at (face_of s) k).runs (k + 1) (fields_at (face_of s) k).r) g.paint);
        }

  -- after the last slot
  pub all_gone : (t : List ℕ) (k : ℕ) → k ≤ slot_count → slot_count ≤ k → Gone s t k → Gone s t slot_count
  all_gone t k a b g = subst (λ (j : ℕ). Gone s t j) (le_antisymm a b) g

  module _ (t : List ℕ) (g : Gone s t slot_count) where
    -- the slot that the running record names has few entries
    pub gone_few : (running_card s).fields.e ≤ entry_places
    gone_few = entries_few (running_card s) (s.pages - s.kept) (card_of_lem s (sym g.slots) (s.running.slot % slot_count) (omega arith))

    pub gone_end : compared_of s t ≡ state_right s
    unfolding pages_fast
    gone_end =
        let f = face_of s in
        let e : all_below most_pages (alike t s.owner) ≡ pages_fast f = ap (λ (l : List ℕ). all_below most_pages (alike l s.owner)) g.paint ∙ ap (λ (b : Bool). b && all_below most_pages (alike (painted_to f slot_count) s.owner)) g.owned in
        rw (state_parts s, sizes_of s.pages s.kept g.sizes, ← g.slots, e, pages_same f g.sizes (cards_of s (sym g.slots)), mode_same s)
