-- Numbers and bytes are known from their text.
use Prim.Native.Nat.{ℕ, zero, suc, ◌+◌, ◌*◌, ◌/◌, ◌%◌, ◌≤◌, ◌<◌, ◌^◌}
use native.Mathlib.Nat.{pow-suc, div-add-mod'}
use native.Mathlib.Omega.{arith}
use mathlib.Core.Path.{◌≡◌, refl, sym, subst, ap, ◌∙◌}
use mathlib.Core.Bool.{true, false}
use mathlib.Core.Logic.{⊎_elim}
use mathlib.Core.List.{List, [], ◌∷◌, ◌++◌}
use lib.ListN.{length, get_or, take, drop, length-append, get_or-append, get_or-eq_default, length-take}
use lib.Seq.{get_or-append_seam, get_or-take}
use lib.Dec.{ltb}
use borrow.Author.Tests.{ltb-true}
use Rattle.lists.proofs.Logic.{decided, pick_true, pick_false, lt_or_ge}
use Rattle.numerals.specs.Decimal.{worth, value_of, digits, decimal}
use Rattle.numerals.specs.Hex.{hex_digit, pairs}

worth_back : (x : ℕ) → worth (48 + x) ≡ x
worth_back x = omega arith

-- the first n characters are read off the first list
value_front : (l m : List ℕ) (n : ℕ) → n ≤ length l → value_of (l ++ m) n ≡ value_of l n
unfolding value_of
value_front l m zero h = refl
value_front l m (suc n) h = rw (value_front l m n (omega arith), get_or-append l m 0 n (omega arith))

value_snoc : (l : List ℕ) (c : ℕ) → value_of (l ++ (c ∷ [])) (length (l ++ (c ∷ []))) ≡ value_of l (length l) * 10 + worth c
unfolding value_of
value_snoc l c =
    let n : length (l ++ (c ∷ [])) ≡ suc (length l) = omega (arith, length-append l (c ∷ [])) in
    rw (n, value_front l (c ∷ []) (length l) (omega arith), get_or-append_seam l c [] 0)

one_back : (x : ℕ) → value_of ((48 + x) ∷ []) 1 ≡ x
unfolding value_of
one_back x = rw (worth_back x) (omega arith)

digits_back : (n x : ℕ) → x < 10 ^ suc n → value_of (digits n x) (length (digits n x)) ≡ x
unfolding digits
digits_back zero x h = one_back x
digits_back (suc n) x h =
    decided (ltb x 10)
    (λ t.
    let e : digits (suc n) x ≡ (48 + x) ∷ [] = pick_true _ _ _ t in
    ap (λ (l : List ℕ). value_of l (length l)) e ∙ one_back x)
    (λ t.
    let e : digits (suc n) x ≡ digits n (x / 10) ++ ((48 + x % 10) ∷ []) = pick_false _ _ _ t in
    let k : x / 10 < 10 ^ suc n = omega (arith, pow-suc 10 (suc n)) in
    ap (λ (l : List ℕ). value_of l (length l)) e
    ∙ (value_snoc (digits n (x / 10)) (48 + x % 10) ∙ rw (digits_back n (x / 10) k, worth_back (x % 10)) (div-add-mod' x 10)))

-- a 64-bit number is the value of its digits
pub decimal_back : (x : ℕ) → x < 2 ^ 64 → value_of (decimal x) (length (decimal x)) ≡ x
unfolding decimal
decimal_back x h = digits_back 19 x (omega arith)

pub decimal_same : (x y : ℕ) → x < 2 ^ 64 → y < 2 ^ 64 → decimal x ≡ decimal y → x ≡ y
decimal_same x y a b e = sym (decimal_back x a) ∙ (ap (λ (l : List ℕ). value_of l (length l)) e ∙ decimal_back y b)

-- ---- bytes

low : (x : ℕ) → ltb x 10 ≡ true → hex_digit x ≡ 48 + x
low x t = pick_true _ _ _ t

high : (x : ℕ) → ltb x 10 ≡ false → hex_digit x ≡ 87 + x
high x t = pick_false _ _ _ t

digit_same : (x y : ℕ) → x < 16 → y < 16 → hex_digit x ≡ hex_digit y → x ≡ y
digit_same x y a b e =
    decided (ltb x 10)
    (λ t. decided (ltb y 10)
    (λ u. omega (arith, sym (low x t) ∙ (e ∙ low y u)))
    (λ u. omega (arith, sym (low x t) ∙ (e ∙ high y u), ltb-true x 10 t)))
    (λ t. decided (ltb y 10)
    (λ u. omega (arith, sym (high x t) ∙ (e ∙ low y u), ltb-true y 10 u))
    (λ u. omega (arith, sym (high x t) ∙ (e ∙ high y u))))

byte_same : (x y : ℕ) → x < 256 → y < 256 → hex_digit (x / 16) ≡ hex_digit (y / 16) → hex_digit (x % 16) ≡ hex_digit (y % 16) → x ≡ y
byte_same x y a b e f =
    let h : x / 16 ≡ y / 16 = digit_same (x / 16) (y / 16) (omega arith) (omega arith) e in
    let l : x % 16 ≡ y % 16 = digit_same (x % 16) (y % 16) (omega arith) (omega arith) f in
    omega (arith, h, l, div-add-mod' x 16, div-add-mod' y 16)

pub pairs_same : (l m : List ℕ) → ((i : ℕ) → get_or l i 0 < 256) → ((i : ℕ) → get_or m i 0 < 256) → pairs l ≡ pairs m → l ≡ m
unfolding pairs
pairs_same [] [] a b e = refl
pairs_same [] (y ∷ m) a b e = absurd (omega (arith, ap length e))
pairs_same (x ∷ l) [] a b e = absurd (omega (arith, ap length e))
pairs_same (x ∷ l) (y ∷ m) a b e =
    let h : x ≡ y = byte_same x y (a 0) (b 0) (ap (λ (z : List ℕ). get_or z 0 0) e) (ap (λ (z : List ℕ). get_or z 1 0) e) in
    let t : l ≡ m = pairs_same l m (λ i. a (suc i)) (λ i. b (suc i)) (ap (λ (z : List ℕ). drop 2 z) e) in
    rw (h, t)

-- bytes that are taken are bytes
pub taken_bytes : (l : List ℕ) (n : ℕ) → ((i : ℕ) → get_or l i 0 < 256) → (i : ℕ) → get_or (take n l) i 0 < 256
taken_bytes l n h i =
    ⊎_elim
    (λ (b : i < n). subst (λ (x : ℕ). x < 256) (sym (get_or-take n l i 0 b)) (h i))
    (λ (b : n ≤ i). subst (λ (x : ℕ). x < 256) (sym (get_or-eq_default (take n l) 0 {n = i} (omega (arith, length-take n l)))) (omega arith))
    (lt_or_ge i n)
