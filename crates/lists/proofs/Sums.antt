-- Laws of `sum_below`, and how a counting loop computes it.
use Prim.Native.Nat.{ℕ, zero, suc, ◌+◌, ◌*◌, ◌≤◌, ◌<◌}
use native.Mathlib.Nat.{le_antisymm}
use native.Mathlib.Numerals.{add-one}
use native.Mathlib.Omega.{arith}
use mathlib.Core.Path.{◌≡◌, refl, subst}
use mathlib.Core.Logic.{⊎_elim}
use Rattle.lists.specs.Below.{sum_below}
use Rattle.lists.proofs.Logic.{lt_or_ge}

module _ (f : ℕ → ℕ) where
  -- before the loop
  pub sum_none : 0 ≡ sum_below 0 f
  unfolding sum_below
  sum_none = refl

  -- a turn
  pub sum_more : (i t : ℕ) → t ≡ sum_below i f → t + f i ≡ sum_below (i + 1) f
  unfolding sum_below
  sum_more i t h = rw (add-one, ← h)

  -- after the loop
  pub sum_end : (n i t : ℕ) → i ≤ n → n ≤ i → t ≡ sum_below i f → t ≡ sum_below n f
  sum_end n i t p q h = subst (λ (k : ℕ). t ≡ sum_below k f) (le_antisymm p q) h

  -- a sum of numbers that are each at most c
  pub sum_le : (n c : ℕ) → ((i : ℕ) → i < n → f i ≤ c) → sum_below n f ≤ n * c
  unfolding sum_below
  sum_le zero c h = omega arith
  sum_le (suc n) c h = omega (arith, sum_le n c (λ i l. h i (omega arith)), h n (omega arith))

  -- each part of a sum is at most the sum
  pub sum_part : (n i : ℕ) → i < n → f i ≤ sum_below n f
  unfolding sum_below
  sum_part zero i l = absurd (omega arith)
  sum_part (suc n) i l =
      ⊎_elim
      (λ (m : i < n). omega (arith, sum_part n i m))
      (λ (m : n ≤ i). let e : i ≡ n = omega arith in rw e (omega arith))
      (lt_or_ge i n)

  -- and two parts of it together
  pub sum_two : (n i j : ℕ) → i < j → j < n → f i + f j ≤ sum_below n f
  unfolding sum_below
  sum_two zero i j l m = absurd (omega arith)
  sum_two (suc n) i j l m =
      ⊎_elim
      (λ (q : j < n). omega (arith, sum_two n i j l q))
      (λ (q : n ≤ j). let e : j ≡ n = omega arith in rw e (omega (arith, sum_part n i (omega arith))))
      (lt_or_ge j n)
