-- A count over the numbers below n is at most one exactly when the test holds of no two of them.
use Prim.Native.Nat.{ℕ, zero, suc, ◌≤◌, ◌<◌}
use native.Mathlib.Omega.{arith}
use mathlib.Core.Path.{◌≡◌, refl}
use mathlib.Core.Bool.{Bool, true}
use mathlib.Core.Logic.{⊎_elim}
use Rattle.lists.specs.Below.{pick, sum_below}
use Rattle.lists.proofs.Logic.{decided, lt_or_ge}
use Rattle.lists.proofs.Sums.{sum_two}

module _ (f : ℕ → ℕ) where
  -- a sum of nothing
  pub sum_nil : (n : ℕ) → ((i : ℕ) → i < n → f i ≡ 0) → sum_below n f ≡ 0
  unfolding sum_below
  sum_nil zero h = refl
  sum_nil (suc n) h = rw (sum_nil n (λ i l. h i (omega arith)), h n (omega arith))

module _ (t : ℕ → Bool) where
  abbrev times : ℕ → ℕ
  times k = pick (t k) 1 0

  one : (k : ℕ) → t k ≡ true → times k ≡ 1
  one k e = rw e

  -- counted once: no two numbers pass
  pub once_sole : (n : ℕ) → sum_below n times ≤ 1 → (j k : ℕ) → j < n → k < n → t j ≡ true → t k ≡ true → j ≡ k
  once_sole n h j k a b p q =
      ⊎_elim
      (λ (m : j < k). absurd (omega (arith, sum_two times n j k m b, one j p, one k q)))
      (λ (m : k ≤ j). ⊎_elim
      (λ (m' : k < j). absurd (omega (arith, sum_two times n k j m' a, one j p, one k q)))
      (λ (m' : j ≤ k). omega arith)
      (lt_or_ge k j))
      (lt_or_ge j k)

  -- and the other way round
  pub sole_once : (n : ℕ) → ((j k : ℕ) → j < n → k < n → t j ≡ true → t k ≡ true → j ≡ k) → sum_below n times ≤ 1
  unfolding sum_below
  sole_once zero h = omega arith
  sole_once (suc n) h =
      decided (t n)
      (λ e. let z = sum_nil times n (λ i l. decided (t i) (λ (p : t i ≡ true). absurd (omega (arith, h i n (omega arith) (omega arith) p e))) (λ p. rw p)) in
      omega (arith, z, one n e))
      (λ e. let z : times n ≡ 0 = rw e in omega (arith, z, sole_once n (λ j k a b p q. h j k (omega arith) (omega arith) p q)))
