-- Every state that the source's types allow is one of those that isolation speaks of.
use Prim.Native.Nat.{ℕ, ◌≤◌, ◌<◌}
use native.Mathlib.Omega.{arith}
use mathlib.Core.Logic.{⊎_elim}
use mathlib.Core.List.{List, []}
use lib.ListN.{length, get_or, get_or-eq_default}
use Rattle.lists.proofs.Logic.{lt_or_ge}
use Rattle.geometry.specs.Geometry.{slot_count, digest_size}
use Rattle.sha_1.specs.declared.Digest.{Digest}
use Rattle.state.specs.declared.State.{State}
use Rattle.state.specs.Zero.{no_pcr, no_slot}
use Rattle.state.specs.Face.{pcrs_of}
use Rattle.state.proofs.Faces.{pcrs_at}
use Rattle.state.proofs.Shape.{Each, each_in, DigestShape, StateShape, slot_in_lem}
use Rattle.rules.specs.Isolation.{Shaped}

pcrs_short : (xs : List Digest) → Each DigestShape xs → (i : ℕ) → length (get_or xs i no_pcr).bytes ≤ digest_size
pcrs_short xs h i =
    ⊎_elim
    (λ (l : i < length xs). omega (arith, (each_in DigestShape no_pcr xs h i l).long))
    (λ (l : length xs ≤ i). rw (get_or-eq_default xs no_pcr {n = i} l) (omega arith))
    (lt_or_ge i (length xs))

pub shaped : (s : State) → StateShape s → Shaped s
shaped s h = record { owners = omega (arith, h.owner_long); digests = digests }
  where
    digests : (j i : ℕ) → length (get_or (get_or (pcrs_of s) j []) i no_pcr).bytes ≤ digest_size
    digests j i =
        ⊎_elim
        (λ (l : j < slot_count). rw (pcrs_at s.slots j) (pcrs_short (get_or s.slots j no_slot).pcrs (slot_in_lem s h j l).pcrs i))
        (λ (l : slot_count ≤ j). rw (pcrs_at s.slots j, get_or-eq_default s.slots no_slot {n = j} (omega (arith, h.slots_long))) (omega arith))
        (lt_or_ge j slot_count)
