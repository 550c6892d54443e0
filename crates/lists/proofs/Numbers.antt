-- Laws of numbers as bytes, over the width.
use Prim.Native.Nat.{ℕ, zero, suc, ◌+◌, ◌*◌, ◌/◌, ◌%◌, ◌^◌, ◌≤◌, ◌<◌}
use native.Mathlib.Omega.{arith}
use native.Mathlib.Nat.{add_assoc, add-zero, mul_assoc, pow-suc, div-add-mod', mod-add-div', div-div-eq-div-mul}
use mathlib.Core.Path.{◌≡◌, refl, sym, ap, ap₂, ◌∙◌}
use mathlib.Core.List.{List, [], ◌∷◌, ◌++◌, append-nil}
use native.Mathlib.Numerals.{add-one}
use lib.ListN.{length, get_or, drop, length-append, length-drop, get_or-append}
use lib.Seq.{get_or-append-add, get_or_at, get_or-drop, drop-cons, take-suc}
use Rattle.std.specs.Int.{byte_at, bytes_high_first}
use Rattle.lists.specs.Bytes.{part}
use Rattle.lists.specs.Numbers.{little, little_at, big, big_at}
use Rattle.lists.proofs.Parts.{part_at}

-- how many bytes, least first
pub little_long : (n x : ℕ) → length (little n x) ≡ n
unfolding little
little_long zero x = refl
little_long (suc n) x = ap suc (little_long n (x / 256))

-- how many bytes, most first
pub big_long : (n x : ℕ) → length (big n x) ≡ n
unfolding big
big_long zero x = refl
big_long (suc n) x = simp (length-append, big_long n (x / 256)) (omega arith)

-- what stands before the bytes is not looked at
pub little_skip : (n : ℕ) (xs l : List ℕ) (at : ℕ) → little_at n (xs ++ l) (length xs + at) ≡ little_at n l at
unfolding little_at
little_skip zero xs l at = refl
little_skip (suc n) xs l at =
    rw (get_or-append-add xs l at 0, add_assoc (length xs) at 1, little_skip n xs l (at + 1))

-- nor is what follows them
pub little_front : (n : ℕ) (l xs : List ℕ) (at : ℕ) → at + n ≤ length l → little_at n (l ++ xs) at ≡ little_at n l at
unfolding little_at
little_front zero l xs at h = refl
little_front (suc n) l xs at h = rw (get_or-append l xs 0 at (omega arith), little_front n l xs (at + 1) (omega arith))

-- a number in a part
pub little_part : (n : ℕ) (l : List ℕ) (a w i : ℕ) → i + n ≤ w → little_at n (part l a w) i ≡ little_at n l (a + i)
unfolding little_at
little_part zero l a w i h = refl
little_part (suc n) l a w i h =
    rw (part_at l a w i (omega arith), little_part n l a w (i + 1) (omega arith), add_assoc a i 1)

-- and in what is left after some bytes
pub little_drop : (n : ℕ) (l : List ℕ) (t i : ℕ) → little_at n (drop t l) i ≡ little_at n l (t + i)
unfolding little_at
little_drop zero l t i = refl
little_drop (suc n) l t i = rw (get_or-drop t l i 0, little_drop n l t (i + 1), add_assoc t i 1)

-- a number that fits, written and read again
pub little_back : (n x : ℕ) → x < 256 ^ n → little_at n (little n x) 0 ≡ x
unfolding little little_at
little_back zero x h = omega arith
little_back (suc n) x h =
    rw (little_skip n (x % 256 ∷ []) (little n (x / 256)) 0, little_back n (x / 256) (omega (arith, pow-suc 256 n))) (omega (arith, div-add-mod' x 256))

-- the same, among other bytes
pub little_in : (n x : ℕ) (xs ys : List ℕ) (p : ℕ) → length xs ≡ p → x < 256 ^ n → little_at n (xs ++ (little n x ++ ys)) p ≡ x
little_in n x xs ys p e h =
    ap (little_at n (xs ++ (little n x ++ ys))) (sym e ∙ sym (add-zero (length xs)))
    ∙ little_skip n xs (little n x ++ ys) 0
    ∙ little_front n (little n x) ys 0 (omega (arith, little_long n x))
    ∙ little_back n x h

-- and as the last of them
pub little_last : (n x : ℕ) (xs : List ℕ) (p : ℕ) → length xs ≡ p → x < 256 ^ n → little_at n (xs ++ little n x) p ≡ x
little_last n x xs p e h = ap (λ (z : List ℕ). little_at n (xs ++ z) p) (sym (append-nil (little n x))) ∙ little_in n x xs [] p e h

-- bytes read and written again
pub little_again : (n : ℕ) (l : List ℕ) (at : ℕ) → at + n ≤ length l → ((i : ℕ) → get_or l i 0 < 256) → little n (little_at n l at) ≡ part l at n
unfolding little little_at part
little_again zero l at h b = refl
little_again (suc n) l at h b =
    let x = get_or l at 0 in
    let k = little_at n l (at + 1) in
    let lo : (x + 256 * k) % 256 ≡ x = omega (arith, b at) in
    let hi : (x + 256 * k) / 256 ≡ k = omega (arith, b at) in
    rw (lo, hi, little_again n l (at + 1) (omega arith) b, add-one, drop-cons l at 0 (omega arith))

-- a number of n bytes is below 256 ^ n
pub little_fits : (n : ℕ) (l : List ℕ) (at : ℕ) → ((i : ℕ) → get_or l i 0 < 256) → little_at n l at < 256 ^ n
unfolding little_at
little_fits zero l at b = omega arith
little_fits (suc n) l at b = omega (arith, b at, little_fits n l (at + 1) b, pow-suc 256 n)

-- what lies above the low n bytes is not written
big_past : (n x k : ℕ) → big n (x + k * 256 ^ n) ≡ big n x
unfolding big
big_past zero x k = refl
big_past (suc n) x k =
    let z : ℕ = k * 256 ^ n in
    let e : k * 256 ^ suc n ≡ z * 256 = ap (λ (y : ℕ). k * y) (pow-suc 256 n) ∙ sym (mul_assoc k (256 ^ n) 256) in
    let q : (x + k * 256 ^ suc n) / 256 ≡ x / 256 + z = omega arith in
    let r : (x + k * 256 ^ suc n) % 256 ≡ x % 256 = omega arith in
    rw (q, r, big_past n (x / 256) k)

-- only the low n bytes of a number count
pub big_low : (n x : ℕ) → big n (x % 256 ^ n) ≡ big n x
big_low n x = sym (big_past n (x % 256 ^ n) (x / 256 ^ n)) ∙ ap (big n) (mod-add-div' x (256 ^ n))

-- most first: what stands before the bytes is not looked at
pub big_skip : (n : ℕ) (xs l : List ℕ) (at : ℕ) → big_at n (xs ++ l) (length xs + at) ≡ big_at n l at
unfolding big_at
big_skip zero xs l at = refl
big_skip (suc n) xs l at = rw (big_skip n xs l at, add_assoc (length xs) at n, get_or-append-add xs l (at + n) 0)

-- nor is what follows them
pub big_front : (n : ℕ) (l xs : List ℕ) → n ≤ length l → big_at n (l ++ xs) 0 ≡ big_at n l 0
unfolding big_at
big_front zero l xs h = refl
big_front (suc n) l xs h = rw (big_front n l xs (omega arith), get_or-append l xs 0 (0 + n) (omega arith))

-- a number that fits, written and read again
pub big_back : (n x : ℕ) → x < 256 ^ n → big_at n (big n x) 0 ≡ x
unfolding big big_at
big_back zero x h = omega arith
big_back (suc n) x h =
    let e : get_or (big n (x / 256) ++ (x % 256 ∷ [])) (0 + n) 0 ≡ x % 256 = get_or_at (big n (x / 256)) (x % 256) [] 0 (0 + n) (omega (arith, big_long n (x / 256))) in
    rw (e, big_front n (big n (x / 256)) (x % 256 ∷ []) (omega (arith, big_long n (x / 256))), big_back n (x / 256) (omega (arith, pow-suc 256 n)))
    (omega (arith, div-add-mod' x 256))

-- bytes read and written again
pub big_again : (n : ℕ) (l : List ℕ) (at : ℕ) → at + n ≤ length l → ((i : ℕ) → get_or l i 0 < 256) → big n (big_at n l at) ≡ part l at n
unfolding big big_at part
big_again zero l at h b = refl
big_again (suc n) l at h b =
    let x = get_or l (at + n) 0 in
    let k = big_at n l at in
    let lo : (k * 256 + x) % 256 ≡ x = omega (arith, b (at + n)) in
    let hi : (k * 256 + x) / 256 ≡ k = omega (arith, b (at + n)) in
    rw (lo, hi, big_again n l at (omega arith) b, take-suc (drop at l) n 0 (omega (arith, length-drop at l)), get_or-drop)

-- byte k of what is left without the lowest byte
high_byte : (k x : ℕ) → byte_at (suc k) x ≡ byte_at k (x / 256)
high_byte zero x = refl
high_byte (suc k) x = let e : 256 ^ suc (suc k) ≡ 256 * 256 ^ suc k = omega (arith, pow-suc 256 (suc k)) in
    ap (λ (y : ℕ). x / y % 256) e ∙ ap (λ (y : ℕ). y % 256) (sym (div-div-eq-div-mul x 256 (256 ^ suc k)))

-- the bytes that `to_be_bytes` gives
pub big_bytes : (n x : ℕ) → bytes_high_first n x ≡ big n x
unfolding big
big_bytes zero x = refl
big_bytes (suc n) x = go n ∙ ap (λ (l : List ℕ). l ++ (x % 256 ∷ [])) (big_bytes n (x / 256))
  where
    go : (k : ℕ) → bytes_high_first (suc k) x ≡ bytes_high_first k (x / 256) ++ (x % 256 ∷ [])
    go zero = refl
    go (suc k) = ap₂ (λ (b : ℕ) (l : List ℕ). b ∷ l) (high_byte k x) (go k)
