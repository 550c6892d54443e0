-- What is gathered does not hang on how the input is cut into blocks: after a and then b, it is as after both at once.
use Rattle.std.specs.Prelude.{ℕ, ◌≡◌, List, [], ◌∷◌, ◌++◌}
use Rattle.gather.specs.Lines.{newline, ended_lines, open_line, lines_of}

abbrev pub Cuts : Type 0
Cuts = (l a b : List ℕ) → (ended_lines l (a ++ b) ≡ ended_lines l a ++ ended_lines (open_line l a) b) × (open_line l (a ++ b) ≡ open_line (open_line l a) b)

-- a last line without its newline is as one with it
abbrev pub LastLines : Type 0
LastLines = (input : List ℕ) (c : ℕ) (cs : List ℕ) → open_line [] input ≡ c ∷ cs → lines_of input ≡ lines_of (input ++ (newline ∷ []))
