use mathlib.Core.Path.{◌≡◌}
use mathlib.Core.List.{[]}
use Prim.Native.Nat.{◌+◌, ◌-◌, ◌≤◌}
use lib.ListN.{length, take, drop}
use Rattle.gather.specs.Lines.{ended_lines, line_end}
use Rattle.desk.specs.Served.{answered_in, unasked, standing}
use Rattle.desk.proofs.serve.Given as goal

abbrev pub invariant-loop-end : goal.invariant-loop-end
invariant-loop-end l = (length l.payload ≡ length l.initial.payload) × (length l.memory ≡ length l.initial.memory) × (length l.buffer ≡ length l.initial.buffer) × (length l.out ≡ length l.initial.out)
    × (l.at ≤ length l.text) × (l.end ≡ l.at + line_end (drop l.at l.text)) × (l.used ≤ length l.out)
    × (answered_in (length l.initial.out) (ended_lines [] (drop l.at l.text)) (standing l.state l.memory l.buffer (take l.used l.out) l.at) ≡ answered_in (length l.initial.out) (ended_lines [] l.text) (unasked l.initial.state l.initial.memory l.initial.buffer))

abbrev pub decreases-loop-end : goal.decreases-loop-end
decreases-loop-end l = length l.text - l.at
