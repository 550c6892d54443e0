-- SHA-1, FIPS 180-4 sections 5.3.1 and 6.1.
use Rattle.std.specs.Prelude.{ℕ, List, ◌++◌}
use Rattle.lists.specs.Numbers.{big}
use Rattle.blocks.specs.Blocks.{word_size, padded, folded}
use Rattle.rounds.specs.declared.Words.{Words}
use Rattle.rounds.specs.Rounds.{compress}

-- 5.3.1: the initial hash value
unfoldable pub first : Words
first = record { a = 0x6745_2301; b = 0xefcd_ab89; c = 0x98ba_dcfe; d = 0x1032_5476; e = 0xc3d2_e1f0 }

-- the digest of a hash value: its words, most byte first
abbrev pub word_bytes : ℕ → List ℕ
word_bytes x = big word_size x

unfoldable pub bytes_of : Words → List ℕ
bytes_of s = word_bytes s.a ++ word_bytes s.b ++ word_bytes s.c ++ word_bytes s.d ++ word_bytes s.e

-- 6.1: the digest of a message
unfoldable pub sha1 : List ℕ → List ℕ
sha1 m = bytes_of (folded compress first (padded m))
