-- What start gives is well formed.
use Prim.Native.Nat.{ℕ, ◌-◌, ◌*◌, ◌≤◌, ◌<◌}
use native.Mathlib.Omega.{arith}
use mathlib.Core.Path.{◌≡◌, refl, sym, ap, ◌∙◌}
use mathlib.Core.Bool.{true, false, false≢true}
use mathlib.Core.List.{List}
use mathlib.Core.Logic.{inl, inr, ⊎_elim}
use lib.ListN.{length, get_or, replicate, length-replicate, get_or-replicate}
use borrow.Author.Tests.{lt-ltb, le-ltb}
use Rattle.lists.specs.Below.{table}
use Rattle.lists.proofs.Logic.{decided, lt_or_ge}
use Rattle.lists.proofs.Tables.{table_at, table_is}
use Rattle.geometry.specs.Geometry.{page_size, most_pages, slot_count}
use Rattle.fields.specs.Pages.{has_page}
use Rattle.painting.specs.Painting.{painted}
use Rattle.painting.proofs.Painted.{painted_long, painted_in, painted_out}
use Rattle.state.specs.declared.Card.{Card}
use Rattle.state.specs.declared.Slot.{Slot}
use Rattle.state.specs.Zero.{zero_card, zero_slot, no_slot}
use Rattle.state.specs.Face.{Face, face_of, pcrs_of, card_of, card_at, owner_at}
use Rattle.state.proofs.Faces.{card_at_lem, pcrs_at}
use Rattle.wellformed.specs.WellFormed.{sizes_right, monitors, card_right, holds_at, pcrs_zero, face_right, state_right}
use Rattle.wellformed.proofs.Facts.{Sizes, sizes_hold, sizes_of, of_right, zero_holds}
use Rattle.wellformed.proofs.Zeros.{zero_card_lem, zero_card_right, zero_pcrs_lem}
use Rattle.wellformed.proofs.Runs.{zero_running_lem}
use Rattle.wellformed.proofs.States.{of_pcrs, of_state, of_well}
use Rattle.start.specs.Start.{fresh_owner, bare, fresh_state, start_of}
use Rattle.start.specs.Promise.{InRange, Accepts, Refuses}

-- the zero table with the monitor's pages painted
pub fresh_painted : (p m : ℕ) → m ≤ p → p ≤ most_pages → painted (replicate most_pages 0) (p - m) m monitors ≡ table (fresh_owner p m) most_pages
fresh_painted p m a b = table_is (painted zero (p - m) m monitors) most_pages (fresh_owner p m) 0 (painted_long zero (p - m) monitors m ∙ long) at
  where
    zero : List ℕ
    zero = replicate most_pages 0

    long : length zero ≡ most_pages
    long = length-replicate {A = ℕ} most_pages 0

    at : (i : ℕ) → i < most_pages → get_or (painted zero (p - m) m monitors) i 0 ≡ fresh_owner p m i
    at i l =
        ⊎_elim
        (λ (d : i < p - m). painted_out zero (p - m) monitors m i (inl d) ∙ get_or-replicate most_pages i 0 0 l ∙ rw (lt-ltb i (p - m) d))
        (λ (d : p - m ≤ i). ⊎_elim
        (λ (e : i < p). painted_in zero (p - m) monitors m i (omega (arith, long)) d (omega arith) ∙ rw (le-ltb i (p - m) d, lt-ltb i p e))
        (λ (e : p ≤ i). painted_out zero (p - m) monitors m i (inr (omega arith)) ∙ get_or-replicate most_pages i 0 0 l ∙ rw (le-ltb i (p - m) d, le-ltb i p e))
        (lt_or_ge i p))
        (lt_or_ge i (p - m))

module _ (p m : ℕ) where
  abbrev owner : List ℕ
  owner = table (fresh_owner p m) most_pages

  abbrev face : Face
  face = face_of (bare p m owner)

  slot_free : (k : ℕ) → k < slot_count → get_or (replicate slot_count zero_slot) k no_slot ≡ zero_slot
  slot_free k l = get_or-replicate slot_count k zero_slot no_slot l

  card_free : (k : ℕ) → k < slot_count → card_at face k ≡ zero_card
  card_free k l = card_at_lem (replicate slot_count zero_slot) k ∙ ap card_of (slot_free k l)

  none : (q k : ℕ) → k < slot_count → holds_at face q k ≡ false
  none q k l = ap (λ (x : Card). has_page x.fields q) (card_free k l) ∙ zero_holds zero_card q zero_card_lem

  owner_at_lem : (q : ℕ) → q < most_pages → owner_at face q ≡ fresh_owner p m q
  owner_at_lem q l = table_at (fresh_owner p m) most_pages q 0 l

  fresh_face : Sizes p m → face_right face ≡ true
  fresh_face z =
      of_right face
      (record {
        sizes = z;
        cards = λ k l. ap (λ (x : Card). card_right x (p - m)) (card_free k l) ∙ zero_card_right (p - m);
        held = λ q k l h. absurd (false≢true (sym (none q k l) ∙ h));
        free = λ q l n. owner_at_lem q (omega (arith, z.most)) ∙ rw (lt-ltb q (p - m) l);
        own = λ q a b. owner_at_lem q (omega (arith, z.most)) ∙ rw (le-ltb q (p - m) a, lt-ltb q p b);
        past = λ q a b. owner_at_lem q b ∙ rw (le-ltb q (p - m) (omega arith), le-ltb q p a);
        mode = zero_running_lem;
      })

  fresh_state_lem : Sizes p m → state_right (bare p m owner) ≡ true
  fresh_state_lem z =
      of_state (bare p m owner) (fresh_face z)
      (of_pcrs face (pcrs_of (bare p m owner))
      (λ k l e. ap pcrs_zero (pcrs_at (replicate slot_count zero_slot) k ∙ ap (λ (x : Slot). x.pcrs) (slot_free k l)) ∙ zero_pcrs_lem))

sizes_in : (p m : ℕ) → InRange p m → Sizes p m
sizes_in p m h = record { some = h.0; most = h.1.0; kept = h.1.1.0; left = h.1.1.1 }

in_sizes : (p m : ℕ) → Sizes p m → InRange p m
in_sizes p m h = (h.some, (h.most, (h.kept, h.left)))

pub accepts : Accepts
unfolding start_of fresh_state
accepts p m h =
    let z = sizes_in p m h in
    rw (sizes_of p m z) (refl, of_well (bare p m (owner p m)) (p * page_size) (fresh_state_lem p m z) refl)

pub refuses : Refuses
unfolding start_of
refuses p m h =
    let e : sizes_right p m ≡ false = decided (sizes_right p m) (λ (t : sizes_right p m ≡ true). absurd (h (in_sizes p m (sizes_hold p m t)))) (λ t. t) in
    rw e
