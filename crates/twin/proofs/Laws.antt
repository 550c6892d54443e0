-- A twin comes back as it was given; a reply tells its answer.
use Prim.Native.Nat.{ℕ, ◌-◌, ◌≤◌, ◌<◌, ◌^◌}
use mathlib.Core.Path.{◌≡◌, refl, sym, ap}
use mathlib.Core.Bool.{Bool, true, false}
use native.Mathlib.Omega.{arith}
use native.Mathlib.Nat.{pos_of_ne-zero}
use borrow.Author.Tests.{eqb-true, eqb-false, ne_eqb}
use lib.Dec.{eqb}
use Rattle.lists.specs.Below.{pick}
use Rattle.state.specs.declared.Mode.TheVariants.{Legacy, Secure}
use Rattle.events.specs.declared.Answer.TheVariants as answer
use Rattle.events.proofs.Numbers.{back}
use Rattle.twin.specs.Asked.{refused_as}
use Rattle.twin.specs.Twin.{last, mode_of, number_of}
use Rattle.twin.specs.Promise.{AsGiven, Told, Answered}

round_pick : (t : Bool) (m : ℕ) → (t ≡ true → m ≡ 0) → (t ≡ false → 1 ≤ m) → m < 2 ^ 64 → number_of (pick t Legacy (Secure (m - 1))) ≡ m
round_pick true m z _ _ = sym (z refl)
round_pick false m _ s b = rw (ne_eqb (m - 1) last (λ e. omega (arith, e, s refl, b))) (omega (arith, s refl))

-- a mode's number, read and written back
pub round : (m : ℕ) → m < 2 ^ 64 → number_of (mode_of m) ≡ m
round m b = round_pick (eqb m 0) m (eqb-true m 0) (λ f. pos_of_ne-zero (eqb-false m 0 f)) b

pub given_back : AsGiven
given_back m b = λ i. record { pages = m.pages; kept = m.kept; owner = m.owner; slots = m.slots; mode = round m.mode b i; running = m.running }

pub number_told : Told
number_told (answer.Refused r) = refl
number_told answer.Done = refl
number_told (answer.Slot k) = refl
number_told (answer.Entered k) = refl
number_told (answer.Left n) = refl
number_told (answer.Terminated k) = refl
number_told (answer.Filled n) = refl

pub read_off : Answered
read_off (answer.Refused r) = ap refused_as (back r)
read_off answer.Done = refl
read_off (answer.Slot k) = refl
read_off (answer.Entered k) = refl
read_off (answer.Left n) = refl
read_off (answer.Terminated k) = refl
read_off (answer.Filled n) = refl
