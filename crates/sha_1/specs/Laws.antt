-- What a caller who hashes part after part relies on: it never sees blocks.
use Rattle.std.specs.Prelude.{◌≡◌, ℕ, ◌%◌, List, [], ◌++◌, length}
use Rattle.blocks.specs.Blocks.{block_size}
use Rattle.sha_1.specs.declared.Hashing.{Hashing}
use Rattle.sha_1.specs.Sha1.{sha1}
use Rattle.sha_1.specs.Parts.{fresh, taken_in, finished_of, Holds}

pub record Laws : Type 0 where
  -- at the start nothing is taken in
  pub begun : Holds fresh []
  -- a part that is a whole number of blocks follows what was taken in
  pub followed : (h : Hashing) (m p : List ℕ) → Holds h m → length p % block_size ≡ 0 → Holds (taken_in h p) (m ++ p)
  -- the digest is that of all that was taken in, followed by the last part
  pub ended : (h : Hashing) (m l : List ℕ) → Holds h m → finished_of h l ≡ sha1 (m ++ l)
