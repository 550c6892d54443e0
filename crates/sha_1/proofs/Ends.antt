-- What `finished` and `hash_pair` compute.
use Rattle.std.proofs.Common.{◌≡◌, ℕ, ◌+◌, ◌*◌, ◌%◌, ◌^◌, ◌≤◌, List, [], ◌∷◌, ◌++◌, length, take, sym, refl, append-nil, ap, ◌∙◌, ap₂, arith}
use Rattle.std.specs.List.{flat_map}
use Rattle.std.specs.Int.{bytes_high_first}
use Rattle.lists.proofs.Numbers.{big_bytes}
use Rattle.lists.specs.Numbers.{big}
use Rattle.blocks.specs.declared.Tail.{Tail}
use Rattle.blocks.specs.Blocks.{folded, closing, rest}
use Rattle.blocks.specs.Tail.{ending, tail_of}
use Rattle.blocks.proofs.Fold.{folded_on}
use Rattle.blocks.proofs.Filled.{closing_same, tail_part, tail_fits}
use Rattle.rounds.specs.declared.Words.{Words}
use Rattle.sha_1.specs.declared.Hashing.{Hashing}
use Rattle.rounds.specs.Rounds.{compress}
use Rattle.sha_1.specs.Sha1.{bytes_of}
use Rattle.sha_1.specs.Parts.{finished_of}

-- a tail's bytes lie in its array
pub tail_within : (t : Tail) (x : List ℕ) (n : ℕ) → t ≡ tail_of x n → t.count ≤ 128
tail_within t x n e = rw e (tail_fits x n)

-- the whole blocks of the last part, then its tail
pub finished_is : (h : Hashing) (x : List ℕ) (t : Tail) (n : ℕ) (v w : Words) → v ≡ folded compress h.words x → n ≡ (h.size + length x) % 2 ^ 64
    → t ≡ tail_of x n → w ≡ folded compress v (take t.count t.bytes) → bytes_of w ≡ finished_of h x
unfolding finished_of ending
finished_is h x t n v w p q r e =
    let s : n * 8 % 2 ^ 64 ≡ (h.size + length x) * 8 % 2 ^ 64 = omega arith in
    let c : closing (length x) n ≡ closing (length x) (h.size + length x) = closing_same (length x) n (h.size + length x) s in
    let b : take t.count t.bytes ≡ rest x ++ closing (length x) (h.size + length x) =
    ap (λ (y : Tail). take y.count y.bytes) r ∙ tail_part x n ∙ ap (λ (y : List ℕ). rest x ++ y) c in
    ap bytes_of (e ∙ ap₂ (folded compress) p b ∙ sym (folded_on compress h.words x (closing (length x) (h.size + length x))))

-- the bytes of five words, one word's after the other
pub five_words : (w : Words) (a b c d e : List ℕ) → a ≡ bytes_high_first 4 w.a → b ≡ bytes_high_first 4 w.b → c ≡ bytes_high_first 4 w.c → d ≡ bytes_high_first 4 w.d
    → e ≡ bytes_high_first 4 w.e → flat_map (λ (y : List ℕ). y) (a ∷ b ∷ c ∷ d ∷ e ∷ []) ≡ bytes_of w
unfolding bytes_of big
five_words w a b c d e p q r s t =
    let p' : a ≡ big 4 w.a = p ∙ big_bytes 4 w.a in
    let q' : b ≡ big 4 w.b = q ∙ big_bytes 4 w.b in
    let r' : c ≡ big 4 w.c = r ∙ big_bytes 4 w.c in
    let s' : d ≡ big 4 w.d = s ∙ big_bytes 4 w.d in
    let t' : e ≡ big 4 w.e = t ∙ big_bytes 4 w.e in
    rw (p', q', r', s', t', append-nil) refl
