-- Laws of `any_below`, and how a loop that counts i up to n computes it.
use Prim.Native.Nat.{ℕ, zero, suc, ◌+◌, ◌≤◌, ◌<◌}
use native.Mathlib.Nat.{not-suc-le-zero, le_of_suc-le-suc, eq-or-lt_of_le, le_antisymm}
use native.Mathlib.Numerals.{add-one}
use native.Mathlib.Omega.{arith}
use mathlib.Core.Path.{◌≡◌, refl, sym, subst, ◌∙◌}
use mathlib.Core.Bool.{Bool, true, false, ◌||◌, or-true, false≢true}
use mathlib.Core.Logic.{⊎_elim}
use Rattle.lists.specs.Below.{any_below}
use Rattle.lists.proofs.Logic.{or_cases, decided}

-- where a test first holds, or does hold
pub record Found (f : ℕ → Bool) (n : ℕ) : Type 0 where
  pub at : ℕ
  pub below : at < n
  pub is : f at ≡ true

module _ (f : ℕ → Bool) where
  -- before the loop
  pub any_none : false ≡ any_below 0 f
  unfolding any_below
  any_none = refl

  -- a turn in which the test failed
  pub any_more : (i : ℕ) → false ≡ any_below i f → f i ≡ false → false ≡ any_below (i + 1) f
  unfolding any_below
  any_more i h t = rw (add-one, ← h, t)

  -- the turn in which it passed
  pub any_hit : (n i : ℕ) → i < n → f i ≡ true → true ≡ any_below n f
  unfolding any_below
  any_hit zero i l t = absurd (not-suc-le-zero l)
  any_hit (suc n) i l t =
      ⊎_elim
      (λ (e : i ≡ n). let e' : f n ≡ true = subst (λ (k : ℕ). f k ≡ true) e t in rw (e', or-true))
      (λ (m : i < n). rw (← any_hit n i m t))
      (eq-or-lt_of_le (le_of_suc-le-suc l))

  -- a turn of a loop with no early way out
  pub any_step : (i : ℕ) (ok t : Bool) → ok ≡ any_below i f → t ≡ f i → ok || t ≡ any_below (i + 1) f
  unfolding any_below
  any_step i ok t h e = rw (add-one, h, e)

  -- after the loop
  pub any_end : (n i : ℕ) (ok : Bool) → i ≤ n → n ≤ i → ok ≡ any_below i f → ok ≡ any_below n f
  any_end n i ok p q h = subst (λ (k : ℕ). ok ≡ any_below k f) (le_antisymm p q) h

  -- a test that holds of some number holds of one that can be named
  pub any_find : (n : ℕ) → any_below n f ≡ true → Found f n
  unfolding any_below
  any_find zero h = absurd (false≢true h)
  any_find (suc n) h =
      ⊎_elim
      (λ (g : any_below n f ≡ true). let w = any_find n g in record { at = w.at; below = omega arith; is = w.is })
      (λ (g : f n ≡ true). record { at = n; below = omega arith; is = g })
      (or_cases (any_below n f) (f n) h)

  -- a test that holds of none fails at each
  pub any_not : (n : ℕ) → any_below n f ≡ false → (i : ℕ) → i < n → f i ≡ false
  any_not n h i l = decided (f i) (λ e. absurd (false≢true (sym h ∙ sym (any_hit n i l e)))) (λ e. e)

  -- a test that fails at each number below n
  pub any_no : (n : ℕ) → ((i : ℕ) → i < n → f i ≡ false) → any_below n f ≡ false
  any_no n h = decided (any_below n f)
      (λ e. let w = any_find n e in absurd (false≢true (sym (h w.at w.below) ∙ w.is)))
      (λ e. e)
