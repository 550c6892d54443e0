-- "Bit p mod 8 of byte p/8 is 1 (shut) unless page p is open; spare high bits of the last byte are 1. It fills P/8 bytes, rounded up."
use Rattle.std.specs.Prelude.{ℕ, zero, suc, ◌+◌, ◌*◌, ◌/◌, ◌^◌, ◌&&◌, List, length, get_or, leb, ltb, eqb, Result, Ok, Err}
use Rattle.std.proofs.lemmas.List.Edits.{sets}
use Rattle.lists.specs.Below.{pick, table}
use Rattle.state.specs.declared.State.{State}
use Rattle.state.specs.Face.{Face, face_of, is_open}
use Rattle.wellformed.specs.WellFormed.{state_right}
use Rattle.events.specs.declared.Refusal.{Refusal}
use Rattle.events.specs.declared.Refusal.TheVariants.{NotWellFormed, BufferShort}

-- the number with bits f 0, f 1, .., f (n - 1), least first
unfoldable pub number_of : ℕ → (ℕ → ℕ) → ℕ
number_of zero f = 0
number_of (suc n) f = number_of n f + f n * 2 ^ n

-- page p's bit; from P on no page is open, so the spare bits are 1
abbrev pub shut_bit : Face → ℕ → ℕ
shut_bit f p = pick (is_open f p) 0 1

unfoldable pub map_byte : Face → ℕ → ℕ
map_byte f i = number_of 8 (λ j. shut_bit f (8 * i + j))

-- "P/8 bytes, rounded up"
abbrev pub map_length : ℕ → ℕ
map_length p = (p + 7) / 8

unfoldable pub map_of : Face → List ℕ
map_of f = table (map_byte f) (map_length f.pages)

-- "Refusals 1 (memory length aside, since none is lent), 9."
unfoldable pub mapped : State → ℕ → Result ℕ Refusal
mapped s room = pick (state_right s) (pick (leb (map_length s.pages) room) (Ok (map_length s.pages)) (Err BufferShort)) (Err NotWellFormed)

-- an accepted answer "fills the first n bytes of the buffer and no others"; a refusal keeps every byte
unfoldable pub buffer_after : State → List ℕ → List ℕ
buffer_after s buffer = pick (state_right s && leb (map_length s.pages) (length buffer)) (sets buffer 0 (map_of (face_of s))) buffer

-- the same of a table and P, as the code is handed them
abbrev pub shut_in : List ℕ → ℕ → ℕ → ℕ
shut_in owner pages p = pick (ltb p pages && eqb (get_or owner p 0) 0) 0 1

abbrev pub bit_in : List ℕ → ℕ → ℕ → ℕ → ℕ
bit_in owner pages i j = shut_in owner pages (8 * i + j)

unfoldable pub byte_in : List ℕ → ℕ → ℕ → ℕ
byte_in owner pages i = number_of 8 (bit_in owner pages i)
