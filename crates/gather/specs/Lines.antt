-- Lines out of characters: only byte 10 ends a line. "the last needs no newline, and a final newline begins no other line".
use Rattle.std.specs.Prelude.{ℕ, ◌+◌, List, [], ◌∷◌, ◌++◌, set, min, ltb, eqb}
use Rattle.lists.specs.Below.{pick}
use Rattle.numerals.specs.Place.{place_of}
use Rattle.gather.specs.declared.Text.{Text}

-- the newline
abbrev pub newline : ℕ
newline = 10

-- the lines that end in a text; l is what stands before it of the first
unfoldable pub ended_lines : List ℕ → List ℕ → List (List ℕ)
ended_lines l [] = []
ended_lines l (c ∷ cs) = pick (eqb c newline) (l ∷ ended_lines [] cs) (ended_lines (l ++ (c ∷ [])) cs)

-- the line that has not ended, as far as it goes
unfoldable pub open_line : List ℕ → List ℕ → List ℕ
open_line l [] = l
open_line l (c ∷ cs) = pick (eqb c newline) (open_line [] cs) (open_line (l ++ (c ∷ [])) cs)

-- it is a line too at the input's end, if it has begun
abbrev pub last_line : List ℕ → List (List ℕ)
last_line [] = []
last_line (c ∷ cs) = (c ∷ cs) ∷ []

-- the lines of an input
unfoldable pub lines_of : List ℕ → List (List ℕ)
lines_of input = ended_lines [] input ++ last_line (open_line [] input)

-- the place of the first newline, or the length
abbrev pub line_end : List ℕ → ℕ
line_end text = place_of text newline

-- as many characters of a line as say that it is too long, whatever follows: one more than are read
abbrev pub most_kept : ℕ
most_kept = 2001

abbrev pub clipped : ℕ → ℕ
clipped n = min n most_kept

-- n characters are read behind those that are kept: where the text ends, and whether there may be more. None is the input's end, and ends a line that has begun.
unfoldable pub received_of : ℕ → ℕ → Text
received_of kept n = record { end = pick (ltb 0 n) (kept + n) (pick (ltb 0 kept) (kept + 1) 0); more = ltb 0 n }

unfoldable pub with_newline : List ℕ → ℕ → ℕ → List ℕ
with_newline block kept n = pick (ltb 0 n) block (pick (ltb 0 kept) (set block kept newline) block)
