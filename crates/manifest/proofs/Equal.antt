-- Laws of `equal`.
use mathlib.Core.Path.{◌≡◌, refl, ap}
use mathlib.Core.Bool.{Bool, true, ◌&&◌, false≢true}
use mathlib.Core.List.{List, [], ◌∷◌}
use Prim.Native.Nat.{ℕ, ◌+◌, ◌≤◌}
use native.Mathlib.Omega.{arith}
use lib.ListN.{length, get_or}
use lib.Dec.{eqb}
use borrow.Author.Tests.{eqb-true, eq-eqb}
use Rattle.std.specs.Cmp.Lexicographic.{pointwise}
use Rattle.lists.specs.Bytes.{part}
use Rattle.lists.proofs.Logic.{and_l, and_r}
use Rattle.lists.proofs.Parts.{part_none, part_cons}
use Rattle.manifest.specs.Reader.{equal}

pub equal_refl : (a : List ℕ) → equal a a ≡ true
equal_refl [] = refl
equal_refl (x ∷ xs) = rw (eq-eqb x x refl) (equal_refl xs)

pub equal_true : (a b : List ℕ) → equal a b ≡ true → a ≡ b
equal_true [] [] h = refl
equal_true [] (y ∷ ys) h = absurd (false≢true h)
equal_true (x ∷ xs) [] h = absurd (false≢true h)
equal_true (x ∷ xs) (y ∷ ys) h =
    let e : x ≡ y = eqb-true x y (and_l _ _ h) in
    let f : xs ≡ ys = equal_true xs ys (and_r (eqb x y) _ h) in
    cc

-- it is what `==` answers
pub pointwise_equal : (a b : List ℕ) → pointwise eqb a b ≡ equal a b
pointwise_equal [] [] = refl
pointwise_equal [] (y ∷ ys) = refl
pointwise_equal (x ∷ xs) [] = refl
pointwise_equal (x ∷ xs) (y ∷ ys) = ap (λ (t : Bool). eqb x y && t) (pointwise_equal xs ys)

-- five bytes, one by one
pub five_bytes : (m : List ℕ) (t : ℕ) → t + 5 ≤ length m
    → part m t 5 ≡ get_or m t 0 ∷ get_or m (t + 1) 0 ∷ get_or m (t + 2) 0 ∷ get_or m (t + 3) 0 ∷ get_or m (t + 4) 0 ∷ []
five_bytes m t h =
    let a : t + 1 + 1 ≡ t + 2 = omega arith in
    let b : t + 2 + 1 ≡ t + 3 = omega arith in
    let c : t + 3 + 1 ≡ t + 4 = omega arith in
    rw (part_cons m t 4 (omega arith), part_cons m (t + 1) 3 (omega arith), a, part_cons m (t + 2) 2 (omega arith), b, part_cons m (t + 3) 1 (omega arith), c, part_cons m (t + 4) 0 (omega arith), part_none)
