-- Laws of `all_below`, and how a loop that counts i up to n computes it.
use Prim.Native.Nat.{ℕ, zero, suc, ◌+◌, ◌≤◌, ◌<◌}
use native.Mathlib.Nat.{not-suc-le-zero, le_of_suc-le-suc, eq-or-lt_of_le, le_antisymm}
use native.Mathlib.Numerals.{add-one}
use native.Mathlib.Omega.{arith}
use mathlib.Core.Path.{◌≡◌, refl, sym, subst, ◌∙◌}
use mathlib.Core.Bool.{Bool, true, false, ◌&&◌, and-false}
use mathlib.Core.Logic.{⊎_elim}
use lib.Dec.{eqb}
use lib.Bits.{bit_or, bit_xor, or_add_and, xor_add_and, and_le_l, and_le_r, xor_self}
use borrow.Author.Tests.{eqb-true, eqb-false, eq-eqb, ne_eqb}
use Rattle.lists.specs.Below.{all_below}
use Rattle.lists.proofs.Logic.{iff, decided}

module _ (f : ℕ → Bool) where
  -- before the loop
  pub all_none : true ≡ all_below 0 f
  unfolding all_below
  all_none = refl

  -- a turn in which the test passed
  pub all_more : (i : ℕ) → true ≡ all_below i f → f i ≡ true → true ≡ all_below (i + 1) f
  unfolding all_below
  all_more i h t = rw (add-one, ← h, t)

  -- the turn in which it failed
  pub all_stop : (n i : ℕ) → i < n → f i ≡ false → false ≡ all_below n f
  unfolding all_below
  all_stop zero i l t = absurd (not-suc-le-zero l)
  all_stop (suc n) i l t =
      ⊎_elim
      (λ (e : i ≡ n). let e' : f n ≡ false = subst (λ (k : ℕ). f k ≡ false) e t in rw (e', and-false))
      (λ (m : i < n). rw (← all_stop n i m t))
      (eq-or-lt_of_le (le_of_suc-le-suc l))

  -- a turn of a loop with no early way out: ok is the test of those passed so far
  pub all_step : (i : ℕ) (ok t : Bool) → ok ≡ all_below i f → t ≡ f i → ok && t ≡ all_below (i + 1) f
  unfolding all_below
  all_step i ok t h e = rw (add-one, h, e)

  -- after the loop
  pub all_end : (n i : ℕ) (ok : Bool) → i ≤ n → n ≤ i → ok ≡ all_below i f → ok ≡ all_below n f
  all_end n i ok p q h = subst (λ (k : ℕ). ok ≡ all_below k f) (le_antisymm p q) h

  -- a test that holds of all holds of each
  pub all_at : (n : ℕ) → all_below n f ≡ true → (i : ℕ) → i < n → f i ≡ true
  all_at n h i l =
      decided (f i) (λ e. e) (λ e. let z : true ≡ false = sym h ∙ sym (all_stop n i l e) in e ∙ sym z)

  -- a test that holds of each holds of all
  pub all_of : (n : ℕ) → ((i : ℕ) → i < n → f i ≡ true) → all_below n f ≡ true
  unfolding all_below
  all_of zero h = refl
  all_of (suc n) h = rw (all_of n (λ i l. h i (omega arith)), h n (omega arith))

-- two tests that agree at each number below n
pub all_same : (n : ℕ) (f g : ℕ → Bool) → ((i : ℕ) → i < n → f i ≡ g i) → all_below n f ≡ all_below n g
all_same n f g h =
    iff (all_below n f) (all_below n g)
    (λ p. all_of g n (λ i l. sym (h i l) ∙ all_at f n p i l))
    (λ p. all_of f n (λ i l. h i l ∙ all_at g n p i l))

-- a bitwise or is zero where both numbers are
pub or_zero : (a b : ℕ) → eqb (bit_or a b) 0 ≡ eqb a 0 && eqb b 0
or_zero a b = go (eqb a 0) (eqb b 0) refl refl
  where
    go : (x y : Bool) → eqb a 0 ≡ x → eqb b 0 ≡ y → eqb (bit_or a b) 0 ≡ x && y
    go true true p q =
        let p' = eqb-true a 0 p in
        let q' = eqb-true b 0 q in
        eq-eqb (bit_or a b) 0 (omega (arith, or_add_and a b, and_le_l a b, and_le_r a b))
    go true false p q =
        let q' = eqb-false b 0 q in
        ne_eqb (bit_or a b) 0 (λ e. q' (omega (arith, or_add_and a b, and_le_l a b, and_le_r a b)))
    go false y p q =
        let p' = eqb-false a 0 p in
        ne_eqb (bit_or a b) 0 (λ e. p' (omega (arith, or_add_and a b, and_le_l a b, and_le_r a b)))

-- a bitwise exclusive or is zero where the two numbers are the same
pub xor_zero : (a b : ℕ) → eqb (bit_xor a b) 0 ≡ eqb a b
xor_zero a b =
    iff _ _
    (λ p. let p' = eqb-true (bit_xor a b) 0 p in
    eq-eqb a b (omega (arith, xor_add_and a b, and_le_l a b, and_le_r a b)))
    (λ p. let e = eqb-true a b p in eq-eqb (bit_xor a b) 0 (rw e (xor_self b)))

module _ (f : ℕ → Bool) where
  -- before a loop that gathers what is not zero by a bitwise or
  pub bits_none : eqb 0 0 ≡ all_below 0 f
  unfolding all_below
  bits_none = refl

  -- a turn of it
  pub bits_step : (i b t : ℕ) → eqb b 0 ≡ all_below i f → eqb t 0 ≡ f i → eqb (bit_or b t) 0 ≡ all_below (i + 1) f
  unfolding all_below
  bits_step i b t h e = rw (add-one, or_zero b t, h, e)
