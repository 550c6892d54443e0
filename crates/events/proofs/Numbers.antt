-- The numbers begin with 1, and no two refusals have the same.
use Prim.Native.Nat.{◌≤◌, ◌<◌, ◌^◌}
use native.Mathlib.Omega.{arith}
use mathlib.Core.Path.{◌≡◌, refl, sym, ap, ◌∙◌}
use Rattle.std.specs.Prelude.{Some}
use Rattle.events.specs.declared.Refusal.{Refusal}
use Rattle.events.specs.declared.Refusal.TheVariants.{NotWellFormed, NotInThisMode, RuleBroken, OutOfRange, NotReached, NotOpen, NoFreeSlot, NotFound, BufferShort, NoSuchPcr, Unreadable}
use Rattle.events.specs.Refusals.{number_of, refusal_of}

pub named : (r : Refusal) → 1 ≤ number_of r
named NotWellFormed = omega arith
named NotInThisMode = omega arith
named RuleBroken = omega arith
named OutOfRange = omega arith
named NotReached = omega arith
named NotOpen = omega arith
named NoFreeSlot = omega arith
named NotFound = omega arith
named BufferShort = omega arith
named NoSuchPcr = omega arith
named Unreadable = omega arith

pub number_small : (r : Refusal) → number_of r < 2 ^ 64
number_small NotWellFormed = omega arith
number_small NotInThisMode = omega arith
number_small RuleBroken = omega arith
number_small OutOfRange = omega arith
number_small NotReached = omega arith
number_small NotOpen = omega arith
number_small NoFreeSlot = omega arith
number_small NotFound = omega arith
number_small BufferShort = omega arith
number_small NoSuchPcr = omega arith
number_small Unreadable = omega arith

pub back : (r : Refusal) → refusal_of (number_of r) ≡ Some r
back NotWellFormed = refl
back NotInThisMode = refl
back RuleBroken = refl
back OutOfRange = refl
back NotReached = refl
back NotOpen = refl
back NoFreeSlot = refl
back NotFound = refl
back BufferShort = refl
back NoSuchPcr = refl
back Unreadable = refl

pub number_own : (x y : Refusal) → number_of x ≡ number_of y → x ≡ y
number_own x y e = let z : Some x ≡ Some y = sym (back x) ∙ ap refusal_of e ∙ back y in cc
