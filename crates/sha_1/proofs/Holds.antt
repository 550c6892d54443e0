-- A state of the hash that has taken in a message: the laws by which callers hash part after part and never see blocks.
use Rattle.std.proofs.Common.{◌≡◌, ℕ, ◌+◌, ◌*◌, ◌%◌, ◌^◌, List, [], ◌++◌, length, sym, refl, ap, ◌∙◌, ap₂, append_assoc, arith, length-append}
use Rattle.lists.proofs.Numbers.{big_long}
use Rattle.blocks.specs.Blocks.{folded, closing, padded}
use Rattle.blocks.proofs.Fold.{folded_none, folded_append}
use Rattle.blocks.proofs.Filled.{closing_same, closing_filled}
use Rattle.rounds.specs.declared.Words.{Words}
use Rattle.sha_1.specs.declared.Hashing.{Hashing}
use Rattle.rounds.specs.Rounds.{compress}
use Rattle.sha_1.specs.Sha1.{first, bytes_of, sha1}
use Rattle.sha_1.specs.Parts.{fresh, taken_in, finished_of, Holds}

-- at the start nothing is taken in
pub holds_start : Holds fresh []
unfolding fresh
holds_start = record { state = sym (folded_none compress first); count = refl; cut = refl }

-- a part that is a whole number of blocks follows what was taken in
pub holds_taken : (h : Hashing) (m p : List ℕ) → Holds h m → length p % 64 ≡ 0 → Holds (taken_in h p) (m ++ p)
unfolding taken_in
holds_taken h m p a k =
    let l : length (m ++ p) ≡ length m + length p = length-append m p in
    record {
      state = ap (λ (s : Words). folded compress s p) a.state ∙ sym (folded_append compress first m p a.cut);
      count = omega (arith, a.count);
      cut = omega (arith, a.cut);
    }

-- the digest is that of all that was taken in, followed by the last part
pub holds_finished : (h : Hashing) (m l : List ℕ) → Holds h m → finished_of h l ≡ sha1 (m ++ l)
unfolding finished_of sha1 padded
holds_finished h m l a =
    let e : length (m ++ l) ≡ length m + length l = length-append m l in
    let n : length l % 64 ≡ length (m ++ l) % 64 = omega (arith, a.cut) in
    let t : (h.size + length l) * 8 % 2 ^ 64 ≡ length (m ++ l) * 8 % 2 ^ 64 = omega (arith, a.count) in
    let c : closing (length l) (h.size + length l) ≡ closing (length (m ++ l)) (length (m ++ l)) =
    closing_same (length l) (h.size + length l) (length (m ++ l)) t ∙ closing_filled (length l) (length (m ++ l)) (length (m ++ l)) n in
    ap bytes_of
    (ap₂ (λ (s : Words) (z : List ℕ). folded compress s (l ++ z)) a.state c
    ∙ sym (folded_append compress first m (l ++ closing (length (m ++ l)) (length (m ++ l))) a.cut)
    ∙ ap (folded compress first) (sym (append_assoc m l (closing (length (m ++ l)) (length (m ++ l))))))

-- the hash of one part
pub hashed : (m : List ℕ) → finished_of fresh m ≡ sha1 m
hashed m = holds_finished fresh [] m holds_start

-- a digest has 20 bytes
pub sha1_long : (m : List ℕ) → length (sha1 m) ≡ 20
unfolding sha1 bytes_of
sha1_long m = simp (length-append, big_long)
