-- The one or two blocks that end a message.
use Rattle.std.specs.Prelude.{ℕ, ◌-◌, ◌*◌, List, ◌++◌, length}
use Rattle.lists.specs.Bytes.{zeros}
use Rattle.blocks.specs.declared.Tail.{Tail}
use Rattle.blocks.specs.Blocks.{block_size, rest, closing}

-- x, and zeros up to n bytes
unfoldable pub filled : ℕ → List ℕ → List ℕ
filled n x = x ++ zeros (n - length x)

-- what ends a message of total bytes whose last part is given
unfoldable pub ending : List ℕ → ℕ → List ℕ
ending last total = rest last ++ closing (length last) total

-- and the same in an array of two blocks
unfoldable pub tail_of : List ℕ → ℕ → Tail
tail_of last total = record { bytes = filled (2 * block_size) (ending last total); count = length (ending last total) }
