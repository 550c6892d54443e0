-- A number made of bits, and its bits again.
use Prim.Native.Nat.{ℕ, zero, suc, ◌+◌, ◌-◌, ◌*◌, ◌/◌, ◌%◌, ◌^◌, ◌≤◌, ◌<◌}
use native.Mathlib.Nat.{mul_assoc, pow-suc, pow-le-pow_right, mod-eq_of_lt, div-eq_of_lt, add-mul-div_right, add-mul-mod_self_right, zero-mul, one-mul, zero-add}
use native.Mathlib.Numerals.{add-one}
use native.Mathlib.Omega.{arith}
use mathlib.Core.Path.{◌≡◌, refl, sym, ap, subst, ◌∙◌}
use mathlib.Core.Logic.{⊎_elim}
use lib.Bits.{bit_or, or_shifted_r}
use lib.Pow.{pow-add, pow_pos}
use Rattle.lists.proofs.Logic.{lt_or_ge}
use Rattle.devicemap.specs.Map.{number_of}

module _ (f : ℕ → ℕ) (b : (j : ℕ) → f j ≤ 1) where
  -- a bit is 0 or 1, and so is its part of the number
  part_most : (n : ℕ) → f n * 2 ^ n ≤ 2 ^ n
  part_most n =
      ⊎_elim
      (λ (l : f n < 1). let e : f n ≡ 0 = omega arith in rw (e, zero-mul) (omega arith))
      (λ (l : 1 ≤ f n). let e : f n ≡ 1 = omega (arith, b n) in rw (e, one-mul) (omega arith))
      (lt_or_ge (f n) 1)

  pub number_lt : (n : ℕ) → number_of n f < 2 ^ n
  unfolding number_of
  number_lt zero = omega arith
  number_lt (suc n) = rw (pow-suc 2 n) (omega (arith, number_lt n, part_most n))

  pub number_none : 0 ≡ number_of 0 f
  unfolding number_of
  number_none = refl

  -- a turn of the loop that sets one bit after the other, in a byte
  pub number_more : (j x y : ℕ) → j < 8 → x ≡ number_of j f → y ≡ f j → bit_or x ((y * 2 ^ j) % 256) ≡ number_of (j + 1) f
  unfolding number_of
  number_more j x y l h e =
      let p : 2 ^ j ≤ 2 ^ 7 = pow-le-pow_right {n = 2} (omega arith) {i = j} {j = 7} (omega arith) in
      let q : f j * 2 ^ j < 256 = omega (arith, part_most j) in
      rw (add-one, h, e, mod-eq_of_lt q, or_shifted_r (f j) j (number_of j f) (number_lt j)) (omega arith)

  last_bit : (n : ℕ) → (number_of (suc n) f / 2 ^ n) % 2 ≡ f n
  unfolding number_of
  last_bit n =
      rw (add-mul-div_right (number_of n f) (f n) (pow_pos n), div-eq_of_lt (number_lt n))
      (ap (λ (z : ℕ). z % 2) (zero-add (f n)) ∙ mod-eq_of_lt (omega (arith, b n)))

  early : (k d s x : ℕ) → ((s + x * 2 ^ (suc d + k)) / 2 ^ k) % 2 ≡ (s / 2 ^ k) % 2
  early k d s x =
      let e : x * 2 ^ (suc d + k) ≡ (x * 2 ^ d * 2) * 2 ^ k = split in
      rw (e, add-mul-div_right s (x * 2 ^ d * 2) (pow_pos k)) (add-mul-mod_self_right (s / 2 ^ k) (x * 2 ^ d) 2)
    where
      split : x * 2 ^ (suc d + k) ≡ (x * 2 ^ d * 2) * 2 ^ k
      split =
          ap (λ (z : ℕ). x * z) (pow-add 2 (suc d) k ∙ ap (λ (z : ℕ). z * 2 ^ k) (pow-suc 2 d))
          ∙ sym (mul_assoc x (2 ^ d * 2) (2 ^ k))
          ∙ ap (λ (z : ℕ). z * 2 ^ k) (sym (mul_assoc x (2 ^ d) 2))

  -- bit k of the number is f k
  pub number_bit : (n k : ℕ) → k < n → (number_of n f / 2 ^ k) % 2 ≡ f k
  unfolding number_of
  number_bit zero k l = absurd (omega arith)
  number_bit (suc n) k l =
      ⊎_elim
      (λ (m : k < n).
      let e : suc (n - suc k) + k ≡ n = omega arith in
      subst (λ (z : ℕ). ((number_of n f + f n * 2 ^ z) / 2 ^ k) % 2 ≡ (number_of n f / 2 ^ k) % 2) e (early k (n - suc k) (number_of n f) (f n))
      ∙ number_bit n k m)
      (λ (m : n ≤ k). let e : k ≡ n = omega arith in rw e (last_bit n))
      (lt_or_ge k n)
