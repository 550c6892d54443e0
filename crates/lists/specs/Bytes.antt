-- Bytes of a list: a part of it, zeros, whole pages. Bytes are put into a list by the kit's `sets m at bytes`.
use Rattle.std.specs.Prelude.{ℕ, ◌+◌, ◌*◌, List, [], ◌∷◌, ◌++◌, take, drop, replicate}
use Rattle.std.proofs.lemmas.List.Edits.{sets}
use Rattle.lists.specs.Below.{table}

-- the n bytes of m from place at on
unfoldable pub part : List ℕ → ℕ → ℕ → List ℕ
part m at n = take n (drop at m)

-- n zero bytes
unfoldable pub zeros : ℕ → List ℕ
zeros n = replicate n 0

-- the n numbers from a on: the pages of a run
unfoldable pub counted : ℕ → ℕ → List ℕ
counted a n = table (λ i. a + i) n

-- memory with every byte of each page of a list zero; a page has size bytes
unfoldable pub wipe : ℕ → List ℕ → List ℕ → List ℕ
wipe size m [] = m
wipe size m (p ∷ ps) = wipe size (sets m (p * size) (zeros size)) ps

-- the contents of each page of a list, in the list's order
unfoldable pub gather : ℕ → List ℕ → List ℕ → List ℕ
gather size m [] = []
gather size m (p ∷ ps) = part m (p * size) size ++ gather size m ps
