-- Document 01's "Numbers given for no".
use Rattle.std.specs.Prelude.{ℕ, eqb, Option, Some, None}
use Rattle.lists.specs.Below.{pick}
use Rattle.events.specs.declared.Refusal.{Refusal}
use Rattle.events.specs.declared.Refusal.TheVariants.{NotWellFormed, NotInThisMode, RuleBroken, OutOfRange, NotReached, NotOpen, NoFreeSlot, NotFound, BufferShort, NoSuchPcr, Unreadable}

abbrev pub number_of : Refusal → ℕ
number_of NotWellFormed = 1
number_of NotInThisMode = 2
number_of RuleBroken = 3
number_of OutOfRange = 4
number_of NotReached = 5
number_of NotOpen = 6
number_of NoFreeSlot = 7
number_of NotFound = 8
number_of BufferShort = 9
number_of NoSuchPcr = 10
number_of Unreadable = 11

-- "Refusal 0 is none": of what may be refused
abbrev pub told_as : Option Refusal → ℕ
told_as (Some r) = number_of r
told_as None = 0

-- the refusal that has a number
abbrev pub refusal_of : ℕ → Option Refusal
refusal_of n =
    pick (eqb n 1) (Some NotWellFormed)
    (pick (eqb n 2) (Some NotInThisMode)
    (pick (eqb n 3) (Some RuleBroken)
    (pick (eqb n 4) (Some OutOfRange)
    (pick (eqb n 5) (Some NotReached)
    (pick (eqb n 6) (Some NotOpen)
    (pick (eqb n 7) (Some NoFreeSlot)
    (pick (eqb n 8) (Some NotFound)
    (pick (eqb n 9) (Some BufferShort)
    (pick (eqb n 10) (Some NoSuchPcr)
    (pick (eqb n 11) (Some Unreadable)
    None))))))))))
