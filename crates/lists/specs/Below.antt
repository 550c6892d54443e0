-- Tests, searches, sums and tables over the numbers below n.
use Rattle.std.specs.Prelude.{ℕ, zero, suc, ◌+◌, Bool, true, false, ◌&&◌, ◌||◌, not, List, [], ◌∷◌, ◌++◌, ltb}

-- a where the test holds, else b
abbrev pub pick : {A : Type 0} → Bool → A → A → A
pick true a b = a
pick false a b = b

-- two tests agree
abbrev pub same : Bool → Bool → Bool
same true b = b
same false b = not b

-- f of every number below n
unfoldable pub all_below : ℕ → (ℕ → Bool) → Bool
all_below zero f = true
all_below (suc n) f = all_below n f && f n

-- f of some number below n
unfoldable pub any_below : ℕ → (ℕ → Bool) → Bool
any_below zero f = false
any_below (suc n) f = any_below n f || f n

-- the first number below n at which f holds, or n
unfoldable pub first_below : (ℕ → Bool) → ℕ → ℕ
first_below f zero = 0
first_below f (suc n) = pick (ltb (first_below f n) n) (first_below f n) (pick (f n) n (suc n))

-- f 0 + f 1 + .. + f (n - 1)
unfoldable pub sum_below : ℕ → (ℕ → ℕ) → ℕ
sum_below zero f = 0
sum_below (suc n) f = sum_below n f + f n

-- the list of v 0, v 1, .., v (n - 1)
unfoldable pub table : {A : Type 0} → (ℕ → A) → ℕ → List A
table v zero = []
table v (suc n) = table v n ++ (v n ∷ [])

-- the lists v 0, v 1, .., v (n - 1), one after the other
unfoldable pub joined : {A : Type 0} → ℕ → (ℕ → List A) → List A
joined zero v = []
joined (suc n) v = joined n v ++ v n
