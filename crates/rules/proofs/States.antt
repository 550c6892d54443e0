-- The state that a plan's face and µPCRs make: its parts, when two are the same, and what the types say of it.
use Prim.Native.Nat.{ℕ, ◌≤◌, ◌<◌}
use native.Mathlib.Omega.{arith}
use mathlib.Core.Path.{◌≡◌, refl, ap, ◌∙◌}
use mathlib.Core.Logic.{⊎_elim}
use mathlib.Core.List.{List, []}
use lib.ListN.{length, get_or, length-map, length-replicate, get_or-eq_default, get_or-replicate}
use Rattle.lists.specs.Below.{table}
use Rattle.lists.proofs.Logic.{lt_or_ge}
use Rattle.lists.proofs.Tables.{table_long, table_at, table_same}
use Rattle.geometry.specs.Geometry.{most_pages, slot_count, pcr_count, digest_size}
use Rattle.memory.specs.Source.{chosen_of}
use Rattle.sha_1.specs.declared.Digest.{Digest}
use Rattle.sha_1.specs.Sha1.{sha1}
use Rattle.sha_1.proofs.Holds.{sha1_long}
use Rattle.state.specs.declared.Slot.{Slot}
use Rattle.state.specs.Zero.{zero_pcr, no_pcr, no_card, no_slot}
use Rattle.state.specs.Face.{Face, face_of, pcrs_of, state_of, slot_of, card_at, card_of, pcrs_in}
use Rattle.state.proofs.Faces.{card_at_lem, pcrs_at}
use Rattle.rules.specs.Plan.{Seal, same, clear, extend, measure}
use Rattle.rules.specs.Act.{sealed, extended_by, extended, measured, zero_pcrs}
use Rattle.rules.specs.Isolation.{Shaped}
use Rattle.rules.proofs.Lists.{set_one}

module _ (f : Face) (c : List (List Digest)) where
  pub owner_of : (state_of f c).owner ≡ f.owner
  unfolding state_of
  owner_of = refl

  -- the card and the µPCRs of a slot
  pub card_of_lem : (k : ℕ) → k < slot_count → card_at (face_of (state_of f c)) k ≡ card_at f k
  unfolding state_of
  card_of_lem k l = card_at_lem (table (slot_of f.cards c) slot_count) k ∙ ap card_of (table_at (slot_of f.cards c) slot_count k no_slot l)

  pub pcrs_of_lem : (k : ℕ) → k < slot_count → get_or (pcrs_of (state_of f c)) k [] ≡ get_or c k []
  unfolding state_of
  pcrs_of_lem k l = pcrs_at (table (slot_of f.cards c) slot_count) k ∙ ap pcrs_in (table_at (slot_of f.cards c) slot_count k no_slot l)

  pub pcrs_past : (k : ℕ) → slot_count ≤ k → get_or (pcrs_of (state_of f c)) k [] ≡ []
  unfolding state_of
  pcrs_past k l =
      get_or-eq_default (pcrs_of (state_of f c)) []
      (omega (arith, length-map (table (slot_of f.cards c) slot_count) pcrs_in, table_long (slot_of f.cards c) slot_count))

-- the face does not depend on the µPCRs
pub faces_same : (f : Face) (c c' : List (List Digest)) → face_of (state_of f c) ≡ face_of (state_of f c')
unfolding state_of table
faces_same f c c' = refl

-- with the same µPCRs in each slot it is the same state
pub state_same : (f : Face) (c c' : List (List Digest)) → ((k : ℕ) → k < slot_count → get_or c k [] ≡ get_or c' k []) → state_of f c ≡ state_of f c'
unfolding state_of
state_same f c c' h =
    ap (λ (xs : List Slot). record { pages = f.pages; kept = f.kept; owner = f.owner; slots = xs; mode = f.mode; running = f.running })
    (table_same (slot_of f.cards c) (slot_of f.cards c') slot_count (λ k l. ap (λ (x : List Digest). record { card = get_or f.cards k no_card; pcrs = x }) (h k l)))

-- ---- no µPCR has more than 20 bytes

abbrev Small : Digest → Type 0
Small x = length x.bytes ≤ digest_size

abbrev AllSmall : List Digest → Type 0
AllSmall xs = (i : ℕ) → Small (get_or xs i no_pcr)

zeros_small : AllSmall zero_pcrs
zeros_small i =
    ⊎_elim
    (λ (l : i < pcr_count). rw (get_or-replicate pcr_count i zero_pcr no_pcr l) (omega arith))
    (λ (l : pcr_count ≤ i). rw (get_or-eq_default zero_pcrs no_pcr {n = i} (omega (arith, length-replicate pcr_count zero_pcr))) (omega arith))
    (lt_or_ge i pcr_count)

-- whatever is hashed
hash_long : (l : List ℕ) → length (sha1 l) ≤ digest_size
hash_long l = omega (arith, sha1_long l)

hash_small : (old : Digest) (content : List ℕ) → Small (extended_by old content)
hash_small old content = hash_long _

extended_small : (xs : List Digest) (i : ℕ) (content : List ℕ) → AllSmall xs → AllSmall (extended xs i content)
unfolding extended
extended_small xs i content h q = set_one Small no_pcr xs i q _ (hash_small (get_or xs i no_pcr) content) (h q)

measured_small : (content : List ℕ) → AllSmall (measured content)
unfolding measured
measured_small content q = set_one Small no_pcr zero_pcrs 0 q _ (hash_long _) (zeros_small q)

sealed_small : (s : Seal) (bs m : List ℕ) (c : List (List Digest)) → ((j : ℕ) → AllSmall (get_or c j [])) → (j : ℕ) → AllSmall (get_or (sealed s bs m c) j [])
sealed_small same bs m c h j = h j
sealed_small (clear k) bs m c h j = set_one AllSmall [] c k j zero_pcrs zeros_small (h j)
sealed_small (extend k i source a n) bs m c h j = set_one AllSmall [] c k j _ (extended_small (get_or c k []) i (chosen_of bs m source a n) (h k)) (h j)
sealed_small (measure k ps) bs m c h j = set_one AllSmall [] c k j _ (measured_small _) (h j)

-- the state that is made has the shape that the types ask
pub state_shaped : (f : Face) (s : Seal) (bs m : List ℕ) (c : List (List Digest)) → length f.owner ≤ most_pages → ((j : ℕ) → AllSmall (get_or c j [])) → Shaped (state_of f (sealed s bs m c))
state_shaped f s bs m c l h = record { owners = rw (owner_of f (sealed s bs m c)) l; digests = digests }
  where
    digests : (j : ℕ) → AllSmall (get_or (pcrs_of (state_of f (sealed s bs m c))) j [])
    digests j i =
        ⊎_elim
        (λ (b : j < slot_count). rw (pcrs_of_lem f (sealed s bs m c) j b) (sealed_small s bs m c h j i))
        (λ (b : slot_count ≤ j). rw (pcrs_past f (sealed s bs m c) j b) (omega arith))
        (lt_or_ge j slot_count)
