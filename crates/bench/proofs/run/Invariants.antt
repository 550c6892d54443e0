use Rattle.std.proofs.Common.{◌≤◌}
use Rattle.bench.proofs.run.Given as goal

abbrev pub invariant-loop : goal.invariant-loop
invariant-loop g l = (l.part.at ≤ l.part.end) × (l.part.end ≤ 65536)
