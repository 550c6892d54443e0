-- The place that `position` finds is the first number that passes.
use Prim.Native.Nat.{ℕ, ◌<◌}
use native.Mathlib.Omega.{arith}
use mathlib.Core.Path.{◌≡◌, sym, ap, ◌∙◌}
use mathlib.Core.Bool.{Bool, not}
use mathlib.Core.List.{List}
use lib.ListN.{length, get_or}
use Rattle.std.specs.Prelude.{position}
use Rattle.std.specs.List.{position_or_len}
use Rattle.std.proofs.lemmas.List.Sums.{prefix_len_is}
use Rattle.lists.specs.Below.{first_below}
use Rattle.lists.specs.Places.{if_below}
use Rattle.lists.proofs.First.{first_le, first_at, first_before}

module _ {A : Type 0} (p : A → Bool) (d : A) (f : ℕ → Bool) (xs : List A) (same : (k : ℕ) → k < length xs → f k ≡ p (get_or xs k d)) where
  place_first : position_or_len p xs ≡ first_below f (length xs)
  place_first =
      let n : ℕ = length xs in
      prefix_len_is (λ x. not (p x)) xs (first_below f n) d (first_le f n)
      (λ k l. ap not (sym (same k (omega (arith, first_le f n))) ∙ first_before f n k l))
      (λ l. ap not (sym (same (first_below f n) l) ∙ first_at f n l))

  pub position_first : (n : ℕ) → length xs ≡ n → position p xs ≡ if_below n (first_below f n)
  position_first n e = ap (if_below (length xs)) place_first ∙ ap (λ (m : ℕ). if_below m (first_below f m)) e
