-- A line's fields: "One space between fields". Only byte 32 parts them, so a doubled, leading or trailing space leaves an empty field.
use Rattle.std.specs.Prelude.{ℕ, List, [], length, slice_get, unwrap_or}
use Rattle.std.specs.List.{slice_split}
use Rattle.numerals.specs.Place.{is_char}

abbrev pub space : ℕ
space = 32

-- what stands before the first space, between two and behind the last
unfoldable pub fields : List ℕ → List (List ℕ)
fields l = slice_split (is_char space) l

unfoldable pub field_count : List ℕ → ℕ
field_count l = length (fields l)

-- field k, counted from 0; behind the last they are empty
unfoldable pub field : List ℕ → ℕ → List ℕ
field l k = unwrap_or (slice_get (fields l) k) []
