-- Laws of tests.
use mathlib.Core.Path.{◌≡◌, refl, sym}
use mathlib.Core.Bool.{Bool, true, false, ◌&&◌, ◌||◌, false≢true}
use mathlib.Core.Logic.{◌⊎◌, inl, inr}
use Prim.Native.Nat.{ℕ, ◌≤◌, ◌<◌}
use lib.Dec.{ltb}
use borrow.Author.Tests.{ltb-true, ltb-false}
use Rattle.lists.specs.Below.{pick, same}

-- the first part of an `&&` that holds
pub and_l : (a b : Bool) → a && b ≡ true → a ≡ true
and_l true b h = refl
and_l false b h = h

-- the second part of an `&&` that holds
pub and_r : (a b : Bool) → a && b ≡ true → b ≡ true
and_r true b h = h
and_r false b h = absurd (false≢true h)

-- an `&&` of two tests that hold
pub both : (a b : Bool) → a ≡ true → b ≡ true → a && b ≡ true
both true b p q = q
both false b p q = p

-- an `||` that holds, by cases
pub or_cases : (a b : Bool) → a || b ≡ true → (a ≡ true) ⊎ (b ≡ true)
or_cases true b h = inl refl
or_cases false b h = inr h

-- an `||` whose first part holds
pub or_left : (a b : Bool) → a ≡ true → a || b ≡ true
or_left true b h = refl
or_left false b h = absurd (false≢true h)

-- an `||` whose second part holds
pub or_right : (a b : Bool) → b ≡ true → a || b ≡ true
or_right true b h = refl
or_right false b h = h

-- the first part of an `||` that fails
pub or_false_l : (a b : Bool) → a || b ≡ false → a ≡ false
or_false_l true b h = h
or_false_l false b h = refl

-- the second part of an `||` that fails
pub or_false_r : (a b : Bool) → a || b ≡ false → b ≡ false
or_false_r true b h = absurd (false≢true (sym h))
or_false_r false b h = h

-- two tests that hold in the same cases are equal
pub iff : (a b : Bool) → (a ≡ true → b ≡ true) → (b ≡ true → a ≡ true) → a ≡ b
iff true b f g = sym (f refl)
iff false true f g = g refl
iff false false f g = refl

-- a test is true or false
pub decided : {A : Type 0} (b : Bool) → (b ≡ true → A) → (b ≡ false → A) → A
decided true f g = f refl
decided false f g = g refl

-- where two tests agree and the first holds, the second holds
pub same_l : (a b : Bool) → same a b ≡ true → a ≡ true → b ≡ true
same_l true b t h = t
same_l false b t h = absurd (false≢true h)

-- and the other way round
pub same_r : (a b : Bool) → same a b ≡ true → b ≡ true → a ≡ true
same_r true b t h = refl
same_r false true t h = t
same_r false false t h = h

-- two tests that hold in the same cases agree
pub agree : (a b : Bool) → (a ≡ true → b ≡ true) → (b ≡ true → a ≡ true) → same a b ≡ true
agree true b f g = f refl
agree false true f g = absurd (false≢true (g refl))
agree false false f g = refl

-- a pick by a test that holds
pub pick_true : {A : Type 0} (t : Bool) (a b : A) → t ≡ true → pick t a b ≡ a
pick_true t a b h = rw h

-- a pick by a test that fails
pub pick_false : {A : Type 0} (t : Bool) (a b : A) → t ≡ false → pick t a b ≡ b
pick_false t a b h = rw h

-- of two numbers the first is below the second, or not
pub lt_or_ge : (a b : ℕ) → (a < b) ⊎ (b ≤ a)
lt_or_ge a b = decided (ltb a b) (λ e. inl (ltb-true a b e)) (λ e. inr (ltb-false a b e))
