use Prim.Native.Nat.{ℕ}
use mathlib.Core.Path.{◌≡◌, ap, ◌∙◌}
use Rattle.std.specs.Prelude.{Option, Some, None, MatchOption}
use Rattle.events.specs.declared.Refusal.{Refusal}
use Rattle.events.specs.Refusals.{number_of, told_as}
use Rattle.start.specs.declared.Started.{Started}
use Rattle.twin.specs.Twin.{shut_of}
use Rattle.start_c.specs.Start.{host_start}
use Rattle.start_c.proofs.monitor_start.Goals as goal

-- the number of what may be refused
number : (o : Option Refusal) (n : ℕ) → MatchOption o (n ≡ 0) (λ r. n ≡ number_of r) → n ≡ told_as o
number (Some r) n h = h
number None n h = h

pub returns : goal.returns
unfolding host_start
returns c = (
  number c.start-s.result.refusal c.map_or.result c.map_or.ensures ∙ ap (λ (s : Started). told_as s.refusal) c.start-s.ensures,
  c.from.ensures ∙ ap (λ (s : Started). shut_of s.state) c.start-s.ensures,
)
