-- The contents of pages, run after run, as the hash takes them in.
use Prim.Native.Nat.{ℕ, zero, suc, ◌+◌, ◌-◌, ◌*◌, ◌%◌, ◌≤◌}
use native.Mathlib.Omega.{arith}
use native.Mathlib.Nat.{add-mul, zero-mul}
use mathlib.Core.Path.{◌≡◌, refl, sym, ap, subst, ◌∙◌}
use mathlib.Core.List.{List, [], ◌∷◌, ◌++◌, append_assoc, append-nil}
use lib.ListN.{length, take, drop}
use lib.Seq.{drop-drop, take-add}
use Rattle.lists.specs.Below.{table, joined}
use Rattle.lists.specs.Bytes.{part, counted, gather}
use Rattle.lists.proofs.Tables.{joined_more}
use Rattle.lists.proofs.Parts.{part_none, part_lent, part_long}
use Rattle.sha_1.specs.declared.Hashing.{Hashing}
use Rattle.sha_1.specs.Parts.{taken_in, finished_of, Holds}
use Rattle.sha_1.specs.Sha1.{sha1}
use Rattle.sha_1.proofs.Holds.{holds_taken, holds_finished}

-- a part after a part
part_append : (m : List ℕ) (a n k : ℕ) → part m a (n + k) ≡ part m a n ++ part m (a + n) k
unfolding part
part_append m a n k = rw (take-add, drop-drop)

pub gather_append : (z : ℕ) (ps qs m : List ℕ) → gather z m (ps ++ qs) ≡ gather z m ps ++ gather z m qs
unfolding gather
gather_append z [] qs m = refl
gather_append z (p ∷ ps) qs m = rw (gather_append z ps qs m, append_assoc)

-- the pages of a run are one part of memory
pub gather_run : (z a n : ℕ) (m : List ℕ) → gather z m (counted a n) ≡ part m (a * z) (n * z)
unfolding gather counted table
gather_run z a zero m = rw zero-mul (sym (part_none m (a * z)))
gather_run z a (suc n) m =
    let e : part m (a * z) (n * z + z) ≡ part m (a * z) (suc n * z) = ap (part m (a * z)) (omega arith) in
    gather_append z (counted a n) ((a + n) ∷ []) m
    ∙ ap (λ (l : List ℕ). l ++ (part m ((a + n) * z) z ++ [])) (gather_run z a n m)
    ∙ rw (append-nil, add-mul) (sym (part_append m (a * z) (n * z) z))
    ∙ e

-- a turn of a loop that takes in run after run
pub gather_turn : {h' : Hashing} (z : ℕ) (m : List ℕ) (v : ℕ → List ℕ) (i : ℕ) (h : Hashing) (p : List ℕ) → h' ≡ taken_in h p → Holds h (gather z m (joined i v)) → p ≡ gather z m (v i)
    → length p % 64 ≡ 0 → Holds h' (gather z m (joined (i + 1) v))
gather_turn {h'} z m v i h p o g e l =
    let c : gather z m (joined i v) ++ p ≡ gather z m (joined (i + 1) v) =
    ap (λ (q : List ℕ). gather z m (joined i v) ++ q) e ∙ sym (gather_append z (joined i v) (v i) m) ∙ ap (gather z m) (sym (joined_more v i)) in
    subst (λ (x : Hashing). Holds x (gather z m (joined (i + 1) v))) (sym o)
    (subst (λ (q : List ℕ). Holds (taken_in h p) q) c (holds_taken h (gather z m (joined i v)) p g l))

-- the bytes of a run, as they are lent
module _ (m : List ℕ) (first count at end : ℕ) (a : at ≡ first * 4096) (e : end ≡ at + count * 4096) where
  pub taken_run : take (end - at) (drop at m) ≡ gather 4096 m (counted first count)
  taken_run = part_lent m at end (count * 4096) e ∙ ap (λ (p : ℕ). part m p (count * 4096)) a ∙ sym (gather_run 4096 first count m)

  pub taken_cut : end ≤ length m → length (take (end - at) (drop at m)) % 64 ≡ 0
  taken_cut h =
      let l : length (part m at (count * 4096)) ≡ count * 4096 = part_long m at (count * 4096) (omega arith) in
      ap (λ (p : List ℕ). length p % 64) (part_lent m at end (count * 4096) e) ∙ omega arith

-- after the loop, with no last part
pub gather_end : (z : ℕ) (m : List ℕ) (v : ℕ → List ℕ) (h : Hashing) (n i : ℕ) (l : List ℕ) → Holds h (gather z m (joined i v)) → i ≡ n → l ≡ []
    → finished_of h l ≡ sha1 (gather z m (joined n v))
gather_end z m v h n i l g e o =
    holds_finished h (gather z m (joined i v)) l g
    ∙ ap (λ (p : List ℕ). sha1 (gather z m (joined i v) ++ p)) o
    ∙ rw append-nil (ap (λ (k : ℕ). sha1 (gather z m (joined k v))) e)
