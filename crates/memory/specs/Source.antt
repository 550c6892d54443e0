-- The bytes that a source names (document 01, "Extend": "The bytes lie either in the payload .. or in a range of its own pages").
use Rattle.std.specs.Prelude.{ℕ, ◌+◌, ◌≤◌, List, length}
use Rattle.lists.specs.Bytes.{part}
use Rattle.memory.specs.declared.Source.{Source}
use Rattle.memory.specs.declared.Source.TheVariants.{Payload, Memory}

-- all of the payload, or the n bytes of memory from place at on
abbrev pub chosen_of : List ℕ → List ℕ → Source → ℕ → ℕ → List ℕ
chosen_of p m Payload at n = p
chosen_of p m Memory at n = part m at n

-- the bytes are in memory, where memory is what is named
abbrev pub InRange : List ℕ → Source → ℕ → ℕ → Type 0
InRange m Payload at n = Unit
InRange m Memory at n = at + n ≤ length m
