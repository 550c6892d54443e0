-- Numbers as bytes, once over the width: little-endian (least byte first) and big-endian (most first).
use Rattle.std.specs.Prelude.{ℕ, zero, suc, ◌+◌, ◌*◌, ◌/◌, ◌%◌, List, [], ◌∷◌, ◌++◌, get_or}

-- the n low bytes of x, least first
unfoldable pub little : ℕ → ℕ → List ℕ
little zero x = []
little (suc n) x = x % 256 ∷ little n (x / 256)

-- the number in the n bytes of l from place at on, least first
unfoldable pub little_at : ℕ → List ℕ → ℕ → ℕ
little_at zero l at = 0
little_at (suc n) l at = get_or l at 0 + 256 * little_at n l (at + 1)

-- the n low bytes of x, most first
unfoldable pub big : ℕ → ℕ → List ℕ
big zero x = []
big (suc n) x = big n (x / 256) ++ (x % 256 ∷ [])

-- the number in the n bytes of l from place at on, most first
unfoldable pub big_at : ℕ → List ℕ → ℕ → ℕ
big_at zero l at = 0
big_at (suc n) l at = big_at n l at * 256 + get_or l (at + n) 0
