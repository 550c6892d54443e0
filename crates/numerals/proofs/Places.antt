-- A character's first place in a text.
use Prim.Native.Nat.{ℕ, ◌≤◌, ◌<◌}
use mathlib.Core.Path.{◌≡◌, sym, subst, ap, ◌∙◌}
use native.Mathlib.Omega.{arith}
use mathlib.Core.Bool.{Bool, true, false, cond}
use mathlib.Core.List.{List, [], ◌∷◌}
use lib.ListN.{length}
use lib.Dec.{ltb}
use borrow.Author.Tests.{ltb-false}
use Rattle.std.proofs.Common.{Option, Some, None}
use Rattle.std.specs.Option.{unwrap_or}
use Rattle.std.specs.List.{position_or_len}
use Rattle.lists.proofs.Logic.{decided}
use Rattle.std.proofs.lemmas.List.Sums.{fails_before_first, passes_at_first}
use Rattle.numerals.specs.Place.{is_at, is_char, place_of}

first_le : (p : ℕ → Bool) (l : List ℕ) → position_or_len p l ≤ length l
first_le p [] = omega arith
first_le p (x ∷ l) = decided (p x) (λ t. rw t (omega arith)) (λ t. rw t (omega (arith, first_le p l)))

-- the library's place, or the length
pub first_or : (l : List ℕ) (c : ℕ) (r : Option ℕ) → r ≡ cond (ltb (position_or_len (is_char c) l) (length l)) (Some (position_or_len (is_char c) l)) None → unwrap_or r (length l) ≡ position_or_len (is_char c) l
first_or l c r e =
    decided (ltb (position_or_len (is_char c) l) (length l))
    (λ t. rw (e, t))
    (λ t. rw (e, t) (omega (arith, ltb-false (position_or_len (is_char c) l) (length l) t, first_le (is_char c) l)))

module _ (l : List ℕ) (c : ℕ) where
  pub place_le : (e : ℕ) → e ≡ place_of l c → e ≤ length l
  unfolding place_of
  place_le e h = subst (λ (k : ℕ). k ≤ length l) (sym h) (first_le (is_char c) l)

  -- it stands there, and not before
  pub place_at : (e : ℕ) → e ≡ place_of l c → e < length l → is_at l c e ≡ true
  unfolding place_of
  place_at e h b = ap (λ (k : ℕ). is_at l c k) h ∙ passes_at_first (is_char c) l 0 (subst (λ (k : ℕ). k < length l) h b)

  pub place_before : (e : ℕ) → e ≡ place_of l c → (i : ℕ) → i < e → is_at l c i ≡ false
  unfolding place_of
  place_before e h i b = fails_before_first (is_char c) l i 0 (subst (λ (k : ℕ). i < k) h b)
