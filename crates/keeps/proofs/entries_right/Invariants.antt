use Rattle.keeps.proofs.Passes.{Entries}
use Rattle.keeps.proofs.entries_right.Given as goal

abbrev pub invariant-loop-x : goal.invariant-loop-x
invariant-loop-x l = Entries l.f l.x-index l.least
