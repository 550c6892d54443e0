-- The first element that passes, among the first e of a list, stands at the first place that passes.
use Prim.Native.Nat.{ℕ, zero, suc, ◌<◌}
use native.Mathlib.Omega.{arith}
use mathlib.Core.Path.{◌≡◌, refl}
use mathlib.Core.Bool.{Bool, true, false, ◌&&◌}
use mathlib.Core.List.{List, [], ◌∷◌}
use lib.ListN.{length, get_or, take}
use lib.Dec.{ltb}
use borrow.Author.Tests.{lt-ltb, ltb-true, ltb-false}
use Rattle.std.specs.Prelude.{Some, None, find}
use Rattle.lists.specs.Below.{pick, first_below}
use Rattle.lists.proofs.Logic.{decided, and_l, and_r}
use Rattle.lists.proofs.First.{first_at, first_before}

module _ {A : Type 0} (p : A → Bool) (d : A) where
  find_none : (e : ℕ) (xs : List A) → ((i : ℕ) → i < e → i < length xs → p (get_or xs i d) ≡ false) → find p (take e xs) ≡ None
  find_none zero xs h = refl
  find_none (suc e) [] h = refl
  find_none (suc e) (x ∷ xs) h =
      rw (h 0 (omega arith) (omega arith)) (find_none e xs (λ i a b. h (suc i) (omega arith) (omega arith)))

  find_some : (e i : ℕ) (xs : List A) → i < e → i < length xs → ((j : ℕ) → j < i → p (get_or xs j d) ≡ false) → p (get_or xs i d) ≡ true → find p (take e xs) ≡ Some (get_or xs i d)
  find_some zero i xs a b h t = absurd (omega arith)
  find_some (suc e) i [] a b h t = absurd (omega arith)
  find_some (suc e) zero (x ∷ xs) a b h t = rw t
  find_some (suc e) (suc i) (x ∷ xs) a b h t =
      rw (h 0 (omega arith)) (find_some e i xs (omega arith) (omega arith) (λ j l. h (suc j) (omega arith)) t)

  abbrev pub passes_at : ℕ → List A → ℕ → Bool
  passes_at e xs i = ltb i e && p (get_or xs i d)

  pub find_first : (e n : ℕ) (xs : List A) → length xs ≡ n
      → find p (take e xs) ≡ pick (ltb (first_below (passes_at e xs) n) n) (Some (get_or xs (first_below (passes_at e xs) n) d)) None
  find_first e n xs q =
      decided (ltb k n)
      (λ t. let here = first_at f n (ltb-true k n t) in
      let under : k < e = ltb-true k e (and_l (ltb k e) _ here) in
      rw t (find_some e k xs under (omega (arith, ltb-true k n t)) (λ j l. missed j l (omega arith)) (and_r (ltb k e) _ here)))
      (λ t. rw t (find_none e xs (λ i a b. missed i (omega (arith, ltb-false k n t)) a)))
    where
      f : ℕ → Bool
      f = passes_at e xs

      k : ℕ
      k = first_below f n

      missed : (i : ℕ) → i < k → i < e → p (get_or xs i d) ≡ false
      missed i l a = rw (lt-ltb i e a) at (first_before f n i l)
