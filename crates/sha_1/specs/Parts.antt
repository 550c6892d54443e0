-- SHA-1 over the parts of a message: what each function does to any state of the hash, and what a state stands for.
use Rattle.std.specs.Prelude.{◌≡◌, ℕ, ◌+◌, ◌%◌, ◌^◌, List, ◌++◌, length}
use Rattle.blocks.specs.Blocks.{block_size, folded, closing, whole}
use Rattle.sha_1.specs.declared.Hashing.{Hashing}
use Rattle.rounds.specs.Rounds.{compress}
use Rattle.sha_1.specs.Sha1.{first, bytes_of}

-- nothing taken in
unfoldable pub fresh : Hashing
fresh = record { words = first; size = 0 }

-- h after the whole blocks of p; what follows them is not looked at. Bytes are counted modulo 2 ^ 64.
unfoldable pub taken_in : Hashing → List ℕ → Hashing
taken_in h p = record { words = folded compress h.words p; size = (h.size + whole (length p)) % 2 ^ 64 }

-- the digest of h with the last part l: l is closed to whole blocks by itself, with the length of all in bits modulo 2 ^ 64
unfoldable pub finished_of : Hashing → List ℕ → List ℕ
finished_of h l = bytes_of (folded compress h.words (l ++ closing (length l) (h.size + length l)))

-- h has taken in m, a whole number of blocks
pub record Holds (h : Hashing) (m : List ℕ) : Type 0 where
  pub state : h.words ≡ folded compress first m
  pub count : h.size ≡ length m % 2 ^ 64
  pub cut : length m % block_size ≡ 0
