-- SHA-1's work on one block, FIPS 180-4 sections 4.1.1, 4.2.1 and 6.1.2.
use Rattle.std.specs.Prelude.{ℕ, zero, suc, ◌+◌, ◌-◌, ◌/◌, List, [], ◌∷◌, ◌++◌, bit_xor, slice_index}
use Rattle.lists.specs.Below.{table}
use Rattle.blocks.specs.Blocks.{word}
use Rattle.rounds.specs.declared.Words.{Words}
use Rattle.rounds.specs.Word.{plus, rotl, ch, parity, maj}

-- the words of a block, the rounds, and those that have one function and one constant
abbrev pub first_words : ℕ
first_words = 16

abbrev pub round_count : ℕ
round_count = 80

abbrev pub quarter : ℕ
quarter = 20

-- the words that follow a block's own, so that each round has its word
abbrev pub later_words : ℕ
later_words = round_count - first_words

-- 6.1.2, 1: W_t for t = n + 16, from the words before it
unfoldable pub next_word : List ℕ → ℕ → ℕ
next_word w n = rotl 1 (bit_xor (bit_xor (bit_xor (slice_index w (n + 13)) (slice_index w (n + 8))) (slice_index w (n + 2))) (slice_index w n))

-- one word more
unfoldable pub grown : ℕ → List ℕ → List ℕ
grown n w = w ++ (next_word w n ∷ [])

-- the first 16 + n words of the schedule of a block
unfoldable pub schedule : List ℕ → ℕ → List ℕ
schedule b zero = table (word b) first_words
schedule b (suc n) = grown n (schedule b n)

-- 4.1.1: the function of the quarter q = t / 20 of the rounds
unfoldable pub mix : ℕ → ℕ → ℕ → ℕ → ℕ
mix zero x y z = ch x y z
mix (suc zero) x y z = parity x y z
mix (suc (suc zero)) x y z = maj x y z
mix (suc (suc (suc q))) x y z = parity x y z

-- 4.2.1: its constant
unfoldable pub constant : ℕ → ℕ
constant zero = 0x5a82_7999
constant (suc zero) = 0x6ed9_eba1
constant (suc (suc zero)) = 0x8f1b_bcdc
constant (suc (suc (suc q))) = 0xca62_c1d6

-- 6.1.2, 3: a round with the value f of its function, its constant k and its word w
unfoldable pub stepped : ℕ → ℕ → ℕ → Words → Words
stepped f k w s = record { a = plus (plus (plus (plus (rotl 5 s.a) f) s.e) k) w; b = s.a; c = rotl 30 s.b; d = s.c; e = s.d }

-- a round of quarter q with the word w
unfoldable pub round : ℕ → ℕ → Words → Words
round q w s = stepped (mix q s.b s.c s.d) (constant q) w s

-- the first n rounds over the words w
unfoldable pub rounds : List ℕ → ℕ → Words → Words
rounds w zero s = s
rounds w (suc n) s = round (n / quarter) (slice_index w n) (rounds w n s)

-- 6.1.2, 4: the next intermediate hash value
unfoldable pub sums : Words → Words → Words
sums h s = record { a = plus h.a s.a; b = plus h.b s.b; c = plus h.c s.c; d = plus h.d s.d; e = plus h.e s.e }

-- 6.1.2: one block
unfoldable pub compress : Words → List ℕ → Words
compress h b = sums h (rounds (schedule b later_words) round_count h)
