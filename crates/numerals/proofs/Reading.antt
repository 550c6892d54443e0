-- How a loop over its characters reads a number.
use Prim.Native.Nat.{ℕ, zero, suc, ◌+◌, ◌*◌, ◌≤◌, ◌<◌, ◌^◌}
use native.Mathlib.Nat.{eq-or-lt_of_le, le_antisymm}
use native.Mathlib.Numerals.{add-one}
use native.Mathlib.Omega.{arith}
use mathlib.Core.Path.{◌≡◌, sym, subst, ap, ◌∙◌}
use mathlib.Core.Bool.{Bool, true, false, ◌&&◌, and-false}
use mathlib.Core.List.{List}
use mathlib.Core.Logic.{◌⊎◌, ⊎_elim}
use lib.ListN.{length, get_or}
use lib.Dec.{leb, ltb}
use Rattle.std.proofs.Common.{Option, Some, None}
use Rattle.std.specs.Option.{SomeIff}
use borrow.Author.Tests.{ltb-true, ltb-false, lt-ltb, le-ltb, le-leb}
use Rattle.lists.specs.Below.{all_below}
use Rattle.lists.proofs.Logic.{decided, pick_true, pick_false, and_l, and_r, both}
use Rattle.lists.proofs.All.{all_stop, all_more}
use Rattle.numerals.specs.Decimal.{worth, digit_value, is_digit, digit_at, value_of, leading_zero, is_number, number_of, more_of}

-- what one character more has to pass
abbrev pub more_test : ℕ → ℕ → Bool
more_test v c = is_digit c && ltb (v * 10 + worth c) (2 ^ 64)

some_same : {x y : ℕ} → Some x ≡ Some y → x ≡ y
some_same e = cc

some_none : {x : ℕ} → Some x ≡ None → ⊥
some_none e = cc

-- a digit's value, or none
pub digit_some : (c d : ℕ) → Some d ≡ digit_value c → (is_digit c ≡ true) × (d ≡ worth c)
digit_some c d e =
    decided (is_digit c)
    (λ t. (t, some_same (e ∙ pick_true (is_digit c) _ _ t)))
    (λ t. absurd (some_none (e ∙ pick_false (is_digit c) _ _ t)))

pub digit_none : (c : ℕ) → None ≡ digit_value c → is_digit c ≡ false
digit_none c e =
    decided (is_digit c)
    (λ t. absurd (some_none (sym (e ∙ pick_true (is_digit c) _ _ t))))
    (λ t. t)

-- one character more is none, or is too many
pub more_no : (v c : ℕ) → (is_digit c ≡ false) ⊎ (2 ^ 64 ≤ v * 10) → None ≡ more_of v c
unfolding more_of
more_no v c h =
    let t : more_test v c ≡ false =
    ⊎_elim
    (λ (p : is_digit c ≡ false). rw p)
    (λ (p : 2 ^ 64 ≤ v * 10). rw (le-ltb (v * 10 + worth c) (2 ^ 64) (omega arith), and-false))
    h in
    sym (pick_false (more_test v c) _ _ t)

-- the digit is added, if the sum fits
pub more_sum : (v c t d : ℕ) (r : Option ℕ) → is_digit c ≡ true → d ≡ worth c → t ≡ v * 10 → SomeIff r (t + d < 2 ^ 64) (t + d) → r ≡ more_of v c
unfolding more_of
more_sum v c t d None a e f h =
    let q : 2 ^ 64 ≤ v * 10 + worth c = omega (arith, h) in
    sym (pick_false (more_test v c) _ _ (rw (le-ltb (v * 10 + worth c) (2 ^ 64) q, and-false)))
more_sum v c t d (Some n) a e f h =
    let q : t + d ≡ v * 10 + worth c = omega arith in
    let b : more_test v c ≡ true = both _ _ a (lt-ltb (v * 10 + worth c) (2 ^ 64) (omega (arith, h.0))) in
    ap Some (h.1 ∙ q) ∙ sym (pick_true (more_test v c) _ _ b)

-- a character that is taken in, and one that is not
pub more_some : (v c n : ℕ) → Some n ≡ more_of v c → (more_test v c ≡ true) × (n ≡ v * 10 + worth c)
unfolding more_of
more_some v c n e =
    decided (more_test v c)
    (λ t. (t, some_same (e ∙ pick_true (more_test v c) _ _ t)))
    (λ t. absurd (some_none (e ∙ pick_false (more_test v c) _ _ t)))

pub more_none : (v c : ℕ) → None ≡ more_of v c → more_test v c ≡ false
unfolding more_of
more_none v c e =
    decided (more_test v c)
    (λ t. absurd (some_none (sym (e ∙ pick_true (more_test v c) _ _ t))))
    (λ t. t)

-- more characters make no smaller number
pub value_grows : (l : List ℕ) (i n : ℕ) → i ≤ n → value_of l i ≤ value_of l n
unfolding value_of
value_grows l i zero h = let e : i ≡ 0 = omega arith in rw e (omega arith)
value_grows l i (suc n) h =
    ⊎_elim
    (λ (e : i ≡ suc n). rw e (omega arith))
    (λ (m : i < suc n). omega (arith, value_grows l i n (omega arith)))
    (eq-or-lt_of_le h)

pub value_more : (l : List ℕ) (i v : ℕ) → v ≡ value_of l i → v * 10 + worth (get_or l i 0) ≡ value_of l (i + 1)
unfolding value_of
value_more l i v e = rw (add-one, e)

-- a character that is no digit, or with which the number does not fit: no number
pub number_stop : (l : List ℕ) (i v : ℕ) → i < length l → v ≡ value_of l i → more_test v (get_or l i 0) ≡ false → is_number l ≡ false
unfolding is_number
number_stop l i v h e t =
    decided (digit_at l i)
    (λ d.
    let big : ltb (v * 10 + worth (get_or l i 0)) (2 ^ 64) ≡ false = rw d at t in
    let m : 2 ^ 64 ≤ value_of l (length l) = omega (arith, value_grows l (i + 1) (length l) (omega arith), value_more l i v e, ltb-false (v * 10 + worth (get_or l i 0)) (2 ^ 64) big) in
    rw (le-ltb (value_of l (length l)) (2 ^ 64) m, and-false, and-false, and-false))
    (λ d. rw (← all_stop (digit_at l) (length l) i h d, and-false, and-false))

-- the next character is taken in
pub number_more : (l : List ℕ) (i v : ℕ) → true ≡ all_below i (digit_at l) → more_test v (get_or l i 0) ≡ true → true ≡ all_below (i + 1) (digit_at l)
number_more l i v h t = all_more (digit_at l) i h (and_l (digit_at l i) _ t)

pub number_fits : (v c : ℕ) → more_test v c ≡ true → v * 10 + worth c < 2 ^ 64
number_fits v c t = ltb-true (v * 10 + worth c) (2 ^ 64) (and_r (is_digit c) _ t)

-- all are
pub number_end : (l : List ℕ) (i v : ℕ) → i ≤ length l → length l ≤ i → (length l ≡ 0 → ⊥) → leading_zero l ≡ false → true ≡ all_below i (digit_at l) → v ≡ value_of l i → v < 2 ^ 64
    → Some v ≡ number_of l
unfolding is_number number_of
number_end l i v p q a b d e f =
    let a' : leb 1 (length l) ≡ true = le-leb 1 (length l) (omega (arith, a)) in
    let k : i ≡ length l = le_antisymm p q in
    let d' : true ≡ all_below (length l) (digit_at l) = subst (λ (j : ℕ). true ≡ all_below j (digit_at l)) k d in
    let e' : v ≡ value_of l (length l) = subst (λ (j : ℕ). v ≡ value_of l j) k e in
    let g : ltb (value_of l (length l)) (2 ^ 64) ≡ true = lt-ltb _ _ (subst (λ (x : ℕ). x < 2 ^ 64) e' f) in
    rw (a', b, ← d', g, ← e')

-- none
pub number_none : (l : List ℕ) → is_number l ≡ false → None ≡ number_of l
unfolding number_of
number_none l h = sym (pick_false (is_number l) _ _ h)

pub number_empty : (l : List ℕ) → length l ≡ 0 → None ≡ number_of l
unfolding is_number
number_empty l h = number_none l (rw h)

pub number_zero : (l : List ℕ) → leading_zero l ≡ true → None ≡ number_of l
unfolding is_number
number_zero l h = number_none l (rw (h, and-false))
