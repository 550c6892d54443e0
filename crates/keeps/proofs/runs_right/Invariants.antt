use Rattle.std.proofs.Common.{◌*◌, ◌≤◌}
use Rattle.keeps.proofs.Passes.{Runs}
use Rattle.keeps.proofs.runs_right.Given as goal

abbrev pub invariant-loop-x : goal.invariant-loop-x
invariant-loop-x l = ((l.held ≤ 65535 * l.x-index) × ((l.params ≤ l.x-index) × (l.pages ≤ 65535 * l.x-index))) × Runs l.f l.x-index l.each l.rise l.at l.held l.code l.params l.pages
