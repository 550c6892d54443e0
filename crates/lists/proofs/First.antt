-- Laws of `first_below`, and how a loop that counts i up to n and stops at the first hit computes it.
use Prim.Native.Nat.{ℕ, zero, suc, ◌+◌, ◌-◌, ◌≤◌, ◌<◌}
use native.Mathlib.Nat.{le_antisymm, add-zero, add-suc}
use native.Mathlib.Numerals.{add-one}
use native.Mathlib.Omega.{arith}
use mathlib.Core.Path.{◌≡◌, refl, sym, subst}
use mathlib.Core.Bool.{Bool, true, false}
use mathlib.Core.Logic.{⊎_elim}
use lib.Dec.{ltb}
use borrow.Author.Tests.{le-ltb, lt-ltb, ltb-true, ltb-false}
use Rattle.lists.specs.Below.{first_below}
use Rattle.lists.proofs.Logic.{decided, lt_or_ge}

module _ (f : ℕ → Bool) where
  -- before the loop
  pub first_none : 0 ≡ first_below f 0
  unfolding first_below
  first_none = refl

  -- a turn in which the test failed
  pub first_more : (i : ℕ) → i ≡ first_below f i → f i ≡ false → i + 1 ≡ first_below f (i + 1)
  unfolding first_below
  first_more i h t = rw (add-one, ← h, le-ltb i i (omega arith), t)

  first_past : (k i : ℕ) → first_below f i ≡ i → f i ≡ true → i ≡ first_below f (suc i + k)
  unfolding first_below
  first_past zero i h t = rw (add-zero, h, le-ltb i i (omega arith), t)
  first_past (suc k) i h t = rw (add-suc, ← first_past k i h t, lt-ltb i (suc i + k) (omega arith))

  -- the turn in which it passed
  pub first_hit : (n i : ℕ) → i < n → i ≡ first_below f i → f i ≡ true → i ≡ first_below f n
  first_hit n i l h t =
      let e : suc i + (n - suc i) ≡ n = omega arith in
      subst (λ (k : ℕ). i ≡ first_below f k) e (first_past (n - suc i) i (sym h) t)

  -- after a loop with no hit
  pub first_end : (n i : ℕ) → i ≤ n → n ≤ i → i ≡ first_below f i → n ≡ first_below f n
  first_end n i p q h = subst (λ (k : ℕ). k ≡ first_below f k) (le_antisymm p q) h

  -- the first hit is no later than n
  pub first_le : (n : ℕ) → first_below f n ≤ n
  unfolding first_below
  first_le zero = omega arith
  first_le (suc n) =
      decided (ltb (first_below f n) n)
      (λ e. rw e (omega (arith, ltb-true (first_below f n) n e)))
      (λ e. rw e (decided (f n) (λ t. rw t (omega arith)) (λ t. rw t (omega arith))))

  -- where there is a hit, the test holds there
  pub first_at : (n : ℕ) → first_below f n < n → f (first_below f n) ≡ true
  unfolding first_below
  first_at zero h = absurd (omega arith)
  first_at (suc n) h =
      decided (ltb (first_below f n) n)
      (λ e. rw e (first_at n (ltb-true (first_below f n) n e)))
      (λ e. decided (f n) (λ t. rw (e, t) t) (λ t. absurd (omega (arith, rw (e, t) at h))))

  -- and before it the test fails
  pub first_before : (n i : ℕ) → i < first_below f n → f i ≡ false
  unfolding first_below
  first_before zero i h = absurd (omega arith)
  first_before (suc n) i h =
      decided (ltb (first_below f n) n)
      (λ e. first_before n i (rw e at h))
      (λ e. decided (f n)
      (λ t. first_before n i (omega (arith, rw (e, t) at h, ltb-false (first_below f n) n e)))
      (λ t. let l : i < suc n = rw (e, t) at h in
      ⊎_elim
      (λ (m : i < n). first_before n i (omega (arith, ltb-false (first_below f n) n e)))
      (λ (m : n ≤ i). let q : n ≡ i = omega arith in subst (λ (k : ℕ). f k ≡ false) q t)
      (lt_or_ge i n)))
