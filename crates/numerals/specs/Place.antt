-- Where a character stands in a text: a space parts fields, a newline ends a line.
use Rattle.std.specs.Prelude.{ℕ, Bool, List, get_or, eqb}
use Rattle.std.specs.List.{position_or_len}

abbrev pub is_char : ℕ → ℕ → Bool
is_char c x = eqb x c

abbrev pub is_at : List ℕ → ℕ → ℕ → Bool
is_at l c i = is_char c (get_or l i 0)

-- the first place of a character, or the length
unfoldable pub place_of : List ℕ → ℕ → ℕ
place_of l c = position_or_len (is_char c) l
