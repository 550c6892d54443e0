-- Padding and cutting into blocks, FIPS 180-4 sections 5.1.1 and 5.2.1, for any hash with blocks of 512 bits, 64 bytes.
use Rattle.std.specs.Prelude.{ℕ, zero, suc, ◌+◌, ◌-◌, ◌*◌, ◌/◌, ◌%◌, List, ◌∷◌, ◌++◌, length, drop}
use Rattle.lists.specs.Bytes.{part, zeros}
use Rattle.lists.specs.Numbers.{big, big_at}

abbrev pub block_size : ℕ
block_size = 64

-- the bytes of a word of 32 bits, and of the length of a message
abbrev pub word_size : ℕ
word_size = 4

abbrev pub length_size : ℕ
length_size = 8

-- the zero bytes between the byte 80 and the length, after n bytes: as few as fill up a block
abbrev pub gap : ℕ → ℕ
gap n = (2 * block_size - (1 + length_size) - n % block_size) % block_size

-- what follows the last n bytes of a message of total bytes: the bit 1, zeros, and the length in bits as 8 bytes, to a whole number of blocks
unfoldable pub closing : ℕ → ℕ → List ℕ
closing n total = 0x80 ∷ zeros (gap n) ++ big length_size (total * 8)

-- 5.1.1: the padded message
unfoldable pub padded : List ℕ → List ℕ
padded m = m ++ closing (length m) (length m)

-- 5.2.1: the block that starts at byte i, and its word t
unfoldable pub block : List ℕ → ℕ → List ℕ
block m i = part m i block_size

abbrev pub word : List ℕ → ℕ → ℕ
word b t = big_at word_size b (t * word_size)

-- the bytes of n that are whole blocks
abbrev pub whole : ℕ → ℕ
whole n = n / block_size * block_size

-- what follows the whole blocks of m
unfoldable pub rest : List ℕ → List ℕ
rest m = drop (whole (length m)) m

-- 6: the state after the first n blocks of m, and after all its whole blocks; f takes in one block
unfoldable pub after : {S : Type 0} → (S → List ℕ → S) → S → List ℕ → ℕ → S
after f s m zero = s
after f s m (suc n) = f (after f s m n) (block m (n * block_size))

unfoldable pub folded : {S : Type 0} → (S → List ℕ → S) → S → List ℕ → S
folded f s m = after f s m (length m / block_size)
