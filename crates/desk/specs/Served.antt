-- Lines heard one after another, and the text of their answers.
use Rattle.std.specs.Prelude.{ℕ, ◌+◌, List, [], ◌∷◌, ◌++◌, length, leb}
use Rattle.lists.specs.Below.{pick}
use Rattle.state.specs.declared.State.{State}
use Rattle.rules.specs.Act.{Out}
use Rattle.answers.specs.Text.{longest_text, text_of}
use Rattle.desk.specs.declared.Desk.{Desk}
use Rattle.desk.specs.Heard.{heard}

-- what lines have left: the state, memory and answer buffer, the text of their answers, and how many characters they were, newlines counted
pub record Standing : Type 0 where
  pub state : State
  pub memory : List ℕ
  pub buffer : List ℕ
  pub text : List ℕ
  pub at : ℕ

-- one line more, with what it does
abbrev pub answered_by : Out → List ℕ → Standing → Standing
answered_by o l x = record { state = o.state; memory = o.memory; buffer = o.buffer; text = x.text ++ text_of o.answer o.buffer; at = x.at + length l + 1 }

unfoldable pub answered : List ℕ → Standing → Standing
answered l x = answered_by (heard x.state x.memory l x.buffer) l x

-- those of some lines before which there is room for any answer
unfoldable pub answered_in : ℕ → List (List ℕ) → Standing → Standing
answered_in room [] x = x
answered_in room (l ∷ ls) x = pick (leb (length x.text + longest_text) room) (answered_in room ls (answered l x)) x

abbrev pub standing : State → List ℕ → List ℕ → List ℕ → ℕ → Standing
standing s m buffer text at = record { state = s; memory = m; buffer = buffer; text = text; at = at }

-- before any line
abbrev pub unasked : State → List ℕ → List ℕ → Standing
unasked s m buffer = standing s m buffer [] 0

-- a desk, with memory, the answer buffer and the text as they are left
abbrev pub standing_of : Desk → List ℕ → List ℕ → List ℕ → Standing
standing_of d m buffer text = standing d.state m buffer text d.at
