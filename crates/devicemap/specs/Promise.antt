-- What the device map promises: bit p is 0 exactly when page p is open.
use Rattle.std.specs.Prelude.{ℕ, ◌*◌, ◌/◌, ◌%◌, ◌^◌, ◌<◌, ◌≡◌, List, get_or, set}
use Rattle.state.specs.Face.{Face}
use Rattle.devicemap.specs.Map.{map_length, map_of, shut_bit}

-- bit p mod 8 of byte p/8
abbrev pub map_bit : List ℕ → ℕ → ℕ
map_bit m p = (get_or m (p / 8) 0 / 2 ^ (p % 8)) % 2

abbrev pub EachBit : Type 0
EachBit = (f : Face) (p : ℕ) → p < 8 * map_length f.pages → map_bit (map_of f) p ≡ shut_bit f p

-- with one page given to a codeblock in slot 0
abbrev pub given : Face → ℕ → Face
given f p = record { pages = f.pages; kept = f.kept; owner = set f.owner p 1; cards = f.cards; mode = f.mode; running = f.running }
