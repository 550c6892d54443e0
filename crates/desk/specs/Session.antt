-- A session: "on P=8, M=1, zeroed memory and a 4,096-byte answer buffer" each line of the input is answered, in order. What is written does not hang on the blocks in which the input comes, nor on the room for the output.
use Rattle.std.specs.Prelude.{ℕ, ◌*◌, ◌≤◌, ◌≡◌, List, [], ◌∷◌, ◌++◌, length, take, drop}
use Rattle.lists.specs.Bytes.{zeros}
use Rattle.geometry.specs.Geometry.{page_size}
use Rattle.state.specs.declared.State.{State}
use Rattle.start.specs.Start.{fresh_state}
use Rattle.gather.specs.Lines.{ended_lines, lines_of, clipped}
use Rattle.answers.specs.Text.{longest_text, text_of}
use Rattle.desk.specs.Heard.{heard}
use Rattle.desk.specs.Served.{Standing, unasked, answered_in}

-- the text of the answers to some lines
unfoldable pub texts_of : List (List ℕ) → State → List ℕ → List ℕ → List ℕ
texts_of [] s m buffer = []
texts_of (l ∷ ls) s m buffer =
    text_of (heard s m l buffer).answer (heard s m l buffer).buffer
    ++ texts_of ls (heard s m l buffer).state (heard s m l buffer).memory (heard s m l buffer).buffer

-- what is printed for an input
unfoldable pub output_of : List ℕ → List ℕ
output_of input = texts_of (lines_of input) (fresh_state 8 1) (zeros (8 * page_size)) (zeros page_size)

-- what is held between two reads or writes: the state, memory and answer buffer, and the text that waits to be heard
pub record Held : Type 0 where
  pub state : State
  pub memory : List ℕ
  pub buffer : List ℕ
  pub waiting : List ℕ

-- where the lines of the waiting text lead, of which as many are heard as there is room for
abbrev pub served_in : ℕ → Held → Standing
served_in room h = answered_in room (ended_lines [] h.waiting) (unasked h.state h.memory h.buffer)

-- all that may be read, written and held
pub data Session : List ℕ → List ℕ → Held → Type 0 where
  -- before the first read
  opened : Session [] [] (record { state = fresh_state 8 1; memory = zeros (8 * page_size); buffer = zeros page_size; waiting = [] })
  -- lines are heard and their answers written
  served : (room : ℕ) (input output : List ℕ) (h : Held) → Session input output h
      → Session input (output ++ (served_in room h).text) (record { state = (served_in room h).state; memory = (served_in room h).memory; buffer = (served_in room h).buffer; waiting = drop (served_in room h).at h.waiting })
  -- no line is left: what has begun of one is kept, no more of it than says that it is too long, and more is read behind it
  filled : (block input output : List ℕ) (h : Held) → ended_lines [] h.waiting ≡ [] → Session input output h
      → Session (input ++ block) output (record { state = h.state; memory = h.memory; buffer = h.buffer; waiting = take (clipped (length h.waiting)) h.waiting ++ block })

-- at every moment what is written, and what is printed for the text that waits, is what is printed for all that was read
abbrev pub Faithful : Type 0
Faithful = (input output : List ℕ) (h : Held) → Session input output h → output ++ texts_of (lines_of h.waiting) h.state h.memory h.buffer ≡ output_of input

-- with room for any answer, no text is printed only where no line is left
abbrev pub Thorough : Type 0
Thorough = (room : ℕ) (h : Held) → longest_text ≤ room → (served_in room h).text ≡ [] → ended_lines [] h.waiting ≡ []
