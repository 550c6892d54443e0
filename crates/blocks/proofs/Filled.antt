-- An array that is filled from the front, and the blocks that end a message.
use mathlib.Core.Path.{◌≡◌, refl, ap, ap₂, sym, ◌∙◌}
use borrow.Rule.Slice.PartMut.{put_mid}
use Prim.Native.Nat.{ℕ, suc, ◌+◌, ◌-◌, ◌*◌, ◌%◌, ◌^◌, ◌<◌, ◌≤◌}
use mathlib.Core.List.{List, [], ◌∷◌, ◌++◌, append_assoc}
use native.Mathlib.Omega.{arith}
use lib.ListN.{length, take, drop, set, replicate, length-append}
use lib.Seq.{set_at, take_at, drop_at}
use Rattle.lists.specs.Bytes.{zeros}
use Rattle.lists.specs.Numbers.{big}
use Rattle.lists.proofs.Parts.{zeros_long, zeros_add}
use Rattle.lists.proofs.Numbers.{big_long, big_low}
use Rattle.blocks.specs.Blocks.{closing, rest}
use Rattle.blocks.specs.declared.Tail.{Tail}
use Rattle.blocks.specs.Tail.{filled, ending, tail_of}
use Rattle.blocks.proofs.Fold.{rest_long}

-- two lengths that are the same modulo 2 ^ 61 bytes
pub closing_same : (n a b : ℕ) → (a * 8) % 2 ^ 64 ≡ (b * 8) % 2 ^ 64 → closing n a ≡ closing n b
unfolding closing
closing_same n a b e =
    ap (λ (z : List ℕ). 0x80 ∷ zeros ((119 - n % 64) % 64) ++ z)
    (sym (big_low 8 (a * 8)) ∙ ap (big 8) e ∙ big_low 8 (b * 8))

-- ---- x, and zeros up to n bytes

pub filled_take : (n k : ℕ) (x : List ℕ) → length x ≡ k → take k (filled n x) ≡ x
unfolding filled
filled_take n k x e = take_at x (zeros (n - length x)) k e

-- one byte more
pub filled_push : (n k : ℕ) (x : List ℕ) (v : ℕ) → length x ≡ k → k < n → set (filled n x) k v ≡ filled n (x ++ (v ∷ []))
unfolding filled zeros
filled_push n k x v e h =
    let l : length (x ++ (v ∷ [])) ≡ length x + 1 = length-append x (v ∷ []) in
    let s : n - length x ≡ suc (n - length (x ++ (v ∷ []))) = omega arith in
    rw s (set_at x 0 (replicate (n - length (x ++ (v ∷ []))) 0) v k e ∙ sym (append_assoc x (v ∷ []) (replicate (n - length (x ++ (v ∷ []))) 0)))

-- bytes put right after x
pub filled_put : (n k e : ℕ) (x y : List ℕ) → length x ≡ k → length y ≡ e → k + e ≤ n → put_mid k e (filled n x) y ≡ filled n (x ++ y)
unfolding filled zeros
filled_put n k e x y p q h =
    let l : length (x ++ y) ≡ k + e = length-append x y ∙ ap₂ (λ (i j : ℕ). i + j) p q in
    rw (take_at x (replicate (n - length x) 0) k p, drop_at x (replicate (n - length x) 0) k p, append_assoc)
    (ap (λ (z : List ℕ). x ++ (y ++ z)) (left (n - length x) (n - length (x ++ y)) (omega arith)))
  where
    left : (a b : ℕ) → a ≡ e + b → drop {A = ℕ} e (replicate a 0) ≡ replicate b 0
    left a b g = ap (λ (k : ℕ). drop e (zeros k)) g ∙ ap (drop e) (sym (zeros_add e b)) ∙ (drop_at (zeros e) (zeros b) e (zeros_long e))

-- zeros are there already
pub filled_zeros : (n k : ℕ) (x : List ℕ) → length x + k ≤ n → filled n x ≡ filled n (x ++ zeros k)
unfolding filled
filled_zeros n k x h =
    let l : length (x ++ zeros k) ≡ length x + k = length-append x (zeros k) ∙ ap (λ (j : ℕ). length x + j) (zeros_long k) in
    let s : n - length x ≡ k + (n - length (x ++ zeros k)) = omega arith in
    rw (append_assoc, zeros_add, ← s)

-- ---- the blocks that end a message

-- what was written is the rest of x with its padding
pub ended : (x : List ℕ) (total n : ℕ) → (119 - length x % 64) % 64 ≡ n → ((rest x ++ (128 ∷ [])) ++ zeros n) ++ big 8 (total * 8) ≡ ending x total
unfolding ending closing
ended x total n e = rw e (simp append_assoc)

pub ending_long : (x : List ℕ) (total : ℕ) → length (ending x total) ≡ length x % 64 + 9 + (119 - length x % 64) % 64
unfolding ending closing
ending_long x total = simp (length-append, rest_long, zeros_long, big_long) (omega arith)

-- and the length in bits
pub tail_is : (b x : List ℕ) (total count n : ℕ) → b ≡ filled 128 (((rest x ++ (128 ∷ [])) ++ zeros n) ++ big 8 (total * 8 % 2 ^ 64))
    → (119 - length x % 64) % 64 ≡ n → count ≡ length x % 64 + 9 + n → ◌≡◌ {A = Tail} (record { bytes = b; count = count }) (tail_of x total)
unfolding tail_of
tail_is b x total count n e k g = cc (ended x total n k, ending_long x total, big_low 8 (total * 8))

pub front_long : (x : List ℕ) (n : ℕ) → length ((rest x ++ (128 ∷ [])) ++ zeros n) ≡ length x % 64 + 1 + n
front_long x n = simp (length-append, rest_long, zeros_long) (omega arith)

-- what `ending` writes: the rest r, the byte that follows the message, and behind the zeros, which are there already, the length in bits
pub ending_is : (x r y z : List ℕ) (total count : ℕ) → r ≡ rest x → y ≡ r → z ≡ big 8 (total * 8 % 2 ^ 64) → length x % 64 + 9 + (119 - length x % 64) % 64 ≡ count
    → ◌≡◌ {A = Tail} (record { bytes = put_mid (count - 8) (count - (count - 8)) (set (put_mid 0 (length r) (zeros 128) y) (length r) 128) z; count = count }) (tail_of x total)
unfolding zeros filled
ending_is x r y z total count e f g h =
    let n : ℕ = (119 - length x % 64) % 64 in
    let l : length (rest x) ≡ length x % 64 = rest_long x in
    let m : length r ≡ length x % 64 = ap length e ∙ l in
    let first : put_mid 0 (length r) (zeros 128) y ≡ filled 128 (rest x) =
    filled_put 128 0 (length r) [] y refl (ap length f) (omega arith) ∙ ap (filled 128) (f ∙ e) in
    let mark : set (put_mid 0 (length r) (zeros 128) y) (length r) 128 ≡ filled 128 ((rest x ++ (128 ∷ [])) ++ zeros n) =
    ap (λ (b : List ℕ). set b (length r) 128) first ∙ filled_push 128 (length r) (rest x) 128 (sym (ap length e)) (omega arith)
    ∙ filled_zeros 128 n (rest x ++ (128 ∷ [])) (simp length-append (omega arith)) in
    let last : put_mid (count - 8) (count - (count - 8)) (set (put_mid 0 (length r) (zeros 128) y) (length r) 128) z
    ≡ filled 128 (((rest x ++ (128 ∷ [])) ++ zeros n) ++ big 8 (total * 8 % 2 ^ 64)) =
    ap₂ (put_mid (count - 8) (count - (count - 8))) mark g
    ∙ filled_put 128 (count - 8) (count - (count - 8)) ((rest x ++ (128 ∷ [])) ++ zeros n) (big 8 (total * 8 % 2 ^ 64))
    (front_long x n ∙ omega arith) (big_long 8 (total * 8 % 2 ^ 64) ∙ omega arith) (omega arith) in
    tail_is _ x total count n last refl (sym h)

-- only the place in the last block counts
pub closing_filled : (n k total : ℕ) → n % 64 ≡ k % 64 → closing n total ≡ closing k total
unfolding closing
closing_filled n k total e = rw e

-- the bytes of a tail that count, and their number
pub tail_part : (x : List ℕ) (total : ℕ) → take (tail_of x total).count (tail_of x total).bytes ≡ ending x total
unfolding tail_of
tail_part x total = filled_take 128 (length (ending x total)) (ending x total) refl

pub tail_fits : (x : List ℕ) (total : ℕ) → (tail_of x total).count ≤ 128
unfolding tail_of
tail_fits x total = omega (arith, ending_long x total)
