-- "HEX is lower-case pairs or `-` for none"
use Rattle.std.specs.Prelude.{ℕ, ◌+◌, ◌*◌, ◌-◌, ◌/◌, ◌%◌, Bool, ◌&&◌, ◌||◌, List, [], ◌∷◌, Option, Some, None, length, get_or, leb, ltb, eqb, is_some, unwrap_or}
use Rattle.std.specs.List.{list_all}
use Rattle.lists.specs.Below.{pick, table}
use Rattle.numerals.specs.Decimal.{between}

-- a hex digit's value; upper case has none, nor has any other character
abbrev pub hex_value : ℕ → Option ℕ
hex_value c = pick (between 48 57 c) (Some (c - 48)) (pick (between 97 102 c) (Some (c - 87)) None)

abbrev pub is_hex_digit : ℕ → Bool
is_hex_digit c = is_some (hex_value c)

-- `-`
abbrev pub is_dash : List ℕ → Bool
is_dash l = eqb (length l) 1 && eqb (get_or l 0 0) 45

-- one pair or more
abbrev pub is_pairs : List ℕ → Bool
is_pairs l = leb 2 (length l) && (eqb (length l % 2) 0 && list_all is_hex_digit l)

unfoldable pub is_hex : List ℕ → Bool
is_hex l = is_dash l || is_pairs l

-- what a hex digit is worth
abbrev pub hex_worth : ℕ → ℕ
hex_worth c = unwrap_or (hex_value c) 0

-- the byte of pair i
abbrev pub pair_at : List ℕ → ℕ → ℕ
pair_at l i = hex_worth (get_or l (i * 2) 0) * 16 + hex_worth (get_or l (i * 2 + 1) 0)

-- the bytes; `-` has none
unfoldable pub hex_bytes : List ℕ → List ℕ
hex_bytes l = table (pair_at l) (length l / 2)

-- a digit's character
abbrev pub hex_digit : ℕ → ℕ
hex_digit x = pick (ltb x 10) (48 + x) (87 + x)

-- bytes as pairs
unfoldable pub pairs : List ℕ → List ℕ
pairs [] = []
pairs (b ∷ bs) = hex_digit (b / 16) ∷ hex_digit (b % 16) ∷ pairs bs
