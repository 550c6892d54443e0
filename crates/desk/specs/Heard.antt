-- What a line does: what it says, by the rules; "any other is `no 11`", and "A refused line changes nothing, 11 included".
use Rattle.std.specs.Prelude.{ℕ, List, Option, Some, None}
use Rattle.events.specs.declared.Answer.TheVariants as answer
use Rattle.events.specs.declared.Refusal.TheVariants as refusal
use Rattle.state.specs.declared.State.{State}
use Rattle.rules.specs.Act.{Out, step}
use Rattle.lines.specs.declared.Said.{Said}
use Rattle.lines.specs.Grammar.{line_of, payload_of}

-- a line that is not readable
abbrev pub unheard : State → List ℕ → List ℕ → Out
unheard s m buffer = record { answer = answer.Refused refusal.Unreadable; state = s; memory = m; buffer = buffer }

-- what a line does that was read so, with these payload bytes
abbrev pub heard_as : Option Said → State → List ℕ → List ℕ → List ℕ → Out
heard_as (Some x) s m payload buffer = step s m x.event payload buffer
heard_as None s m payload buffer = unheard s m buffer

-- what a line does
unfoldable pub heard : State → List ℕ → List ℕ → List ℕ → Out
heard s m line buffer = heard_as (line_of line) s m (payload_of line) buffer
