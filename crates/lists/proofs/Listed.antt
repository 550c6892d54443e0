-- `all` and `any` of a list's first n elements, as tests of the numbers below n.
use Prim.Native.Nat.{ℕ, zero, suc, ◌≤◌}
use native.Mathlib.Omega.{arith}
use mathlib.Core.Path.{◌≡◌, refl}
use mathlib.Core.Bool.{Bool}
use mathlib.Core.List.{List}
use lib.ListN.{length, take, get_or}
use lib.Seq.{take-suc}
use Rattle.std.specs.List.{list_all, list_any}
use Rattle.std.proofs.lemmas.List.Recursion.{and_push, or_push}
use Rattle.lists.specs.Below.{all_below, any_below}

module _ {X : Type 0} (test : X → Bool) (xs : List X) (d : X) where
  pub all_listed : (n : ℕ) → n ≤ length xs → list_all test (take n xs) ≡ all_below n (λ i. test (get_or xs i d))
  unfolding all_below
  all_listed zero h = refl
  all_listed (suc n) h =
      rw (take-suc xs n d h, and_push (list_all test) test refl (λ _ _. refl) (take n xs) (get_or xs n d), all_listed n (omega arith))

  pub any_listed : (n : ℕ) → n ≤ length xs → list_any test (take n xs) ≡ any_below n (λ i. test (get_or xs i d))
  unfolding any_below
  any_listed zero h = refl
  any_listed (suc n) h =
      rw (take-suc xs n d h, or_push (list_any test) test refl (λ _ _. refl) (take n xs) (get_or xs n d), any_listed n (omega arith))
