-- "decimal u64 without leading zeros"
use Rattle.std.specs.Prelude.{ℕ, zero, suc, ◌+◌, ◌*◌, ◌-◌, ◌/◌, ◌%◌, ◌^◌, Bool, ◌&&◌, not, List, [], ◌∷◌, ◌++◌, Option, Some, None, length, get_or, leb, ltb, eqb}
use Rattle.lists.specs.Below.{pick, all_below}

-- a character between two, both taken in
abbrev pub between : ℕ → ℕ → ℕ → Bool
between a b c = leb a c && leb c b

abbrev pub is_digit : ℕ → Bool
is_digit c = between 48 57 c

-- what a digit is worth
abbrev pub worth : ℕ → ℕ
worth c = c - 48

-- a digit's value; another character has none
abbrev pub digit_value : ℕ → Option ℕ
digit_value c = pick (is_digit c) (Some (worth c)) None

abbrev pub digit_at : List ℕ → ℕ → Bool
digit_at l i = is_digit (get_or l i 0)

-- the number that the first n characters are, where they are digits
unfoldable pub value_of : List ℕ → ℕ → ℕ
value_of l zero = 0
value_of l (suc n) = value_of l n * 10 + worth (get_or l n 0)

-- `00` is no number, `0` is one
abbrev pub leading_zero : List ℕ → Bool
leading_zero l = ltb 1 (length l) && eqb (get_or l 0 0) 48

unfoldable pub is_number : List ℕ → Bool
is_number l = leb 1 (length l) && (not (leading_zero l) && (all_below (length l) (digit_at l) && ltb (value_of l (length l)) (2 ^ 64)))

unfoldable pub number_of : List ℕ → Option ℕ
number_of l = pick (is_number l) (Some (value_of l (length l))) None

-- a number and one character more
unfoldable pub more_of : ℕ → ℕ → Option ℕ
more_of v c = pick (is_digit c && ltb (v * 10 + worth c) (2 ^ 64)) (Some (v * 10 + worth c)) None

-- a number's digits, most first, no more than it needs: at most n + 1
unfoldable pub digits : ℕ → ℕ → List ℕ
digits zero x = (48 + x) ∷ []
digits (suc n) x = pick (ltb x 10) ((48 + x) ∷ []) (digits n (x / 10) ++ ((48 + x % 10) ∷ []))

-- a 64-bit number has at most twenty
unfoldable pub decimal : ℕ → List ℕ
decimal x = digits 19 x
