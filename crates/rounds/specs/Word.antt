-- Words of 32 bits, FIPS 180-4 sections 2.2.2, 3.2 and 4.1.1: a word is a number below 2 ^ 32.
use Rattle.std.specs.Prelude.{ℕ, ◌+◌, ◌-◌, ◌*◌, ◌/◌, ◌%◌, ◌^◌, bit_and, bit_or, bit_xor}

-- 3.2, 1: addition modulo 2 ^ 32
abbrev pub plus : ℕ → ℕ → ℕ
plus x y = (x + y) % 2 ^ 32

-- 3.2, 5: ROTL^n(x) = (x << n) | (x >> 32 - n)
abbrev pub rotl : ℕ → ℕ → ℕ
rotl n x = bit_or ((x * 2 ^ n) % 2 ^ 32) (x / 2 ^ (32 - n))

-- 4.1.1: the three functions of the rounds
abbrev pub ch : ℕ → ℕ → ℕ → ℕ
ch x y z = bit_xor (bit_and x y) (bit_and ((2 ^ 32 - 1) - x) z)

abbrev pub parity : ℕ → ℕ → ℕ → ℕ
parity x y z = bit_xor (bit_xor x y) z

abbrev pub maj : ℕ → ℕ → ℕ → ℕ
maj x y z = bit_xor (bit_xor (bit_and x y) (bit_and x z)) (bit_and y z)
