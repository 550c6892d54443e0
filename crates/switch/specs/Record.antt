-- The running call's record at the two switch points, and what the rules of Call and Return have to do with it.
use Rattle.std.specs.Prelude.{ℕ, ◌≡◌}
use Rattle.fields.specs.declared.Entry.{Entry}
use Rattle.events.specs.declared.Answer.TheVariants as answer
use Rattle.state.specs.declared.Mode.TheVariants.{Legacy, Secure}
use Rattle.state.specs.declared.Running.{Running}
use Rattle.state.specs.Zero.{zero_running}
use Rattle.state.specs.Face.{Face}
use Rattle.rules.specs.Plan.{move}
use Rattle.rules.specs.Tests.{kept_as, with_mode}
use Rattle.rules.specs.Decide.{entered, return_rule, out_from}

-- "the running record holds slot, out address and the entry's output length"
abbrev pub entered_record : ℕ → ℕ → ℕ → Running
entered_record k a n = record { slot = k; out = kept_as n a; length = n }

-- what leaving hands out, the record as it was, and what stands in its place, zero
pub record Left : Type 0 where
  pub was : Running
  pub rest : Running

abbrev pub left_of : Running → Left
left_of r = record { was = r; rest = zero_running }

-- a call that is let in: the next face has the record that entering leaves, whatever the slot, the entry and the addresses
abbrev pub CallEnters : Type 0
CallEnters = (f : Face) (k : ℕ) (x : Entry) (i o : ℕ) → (entered f k x i o).next ≡ with_mode f (Secure k) (entered_record k o x.output)

-- a return: length and address are those that leaving hands out, and the next face has the record that it leaves
abbrev pub ReturnLeaves : Type 0
ReturnLeaves = (f : Face) (k : ℕ) →
    ((return_rule f k).answer ≡ answer.Left (left_of f.running).was.length)
    × (((return_rule f k).store ≡ move (out_from f k) (left_of f.running).was.out (left_of f.running).was.length)
    × ((return_rule f k).next ≡ with_mode f Legacy (left_of f.running).rest))
