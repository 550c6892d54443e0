-- Document 01's number and values for each answer.
use Rattle.std.specs.Prelude.{ℕ, List, [], ◌∷◌}
use Rattle.events.specs.declared.Answer.{Answer}
use Rattle.events.specs.declared.Answer.TheVariants.{Done, Slot, Entered, Left, Terminated, Filled, Refused}
use Rattle.events.specs.Refusals.{number_of}

pub record Told : Type 0 where
  pub number : ℕ
  pub values : List ℕ

abbrev pub told : ℕ → List ℕ → Told
told n vs = record { number = n; values = vs }

-- the number given for no, 0 where the event is accepted; a slot, or a count n of bytes
abbrev pub told_by : Answer → Told
told_by Done = told 0 []
told_by (Slot s) = told 0 (s ∷ [])
told_by (Entered s) = told 0 (s ∷ [])
told_by (Left n) = told 0 (n ∷ [])
told_by (Terminated s) = told 0 (s ∷ [])
told_by (Filled n) = told 0 (n ∷ [])
told_by (Refused r) = told (number_of r) []

-- "An accepted answer of n bytes (reads) fills the first n bytes of the buffer and no others; other answers touch none."
abbrev pub fills : Answer → ℕ
fills Done = 0
fills (Slot s) = 0
fills (Entered s) = 0
fills (Left n) = 0
fills (Terminated s) = 0
fills (Filled n) = n
fills (Refused r) = 0
