use Rattle.std.proofs.Common.{◌≡◌, take}
use Rattle.std.specs.List.{fold}
use Rattle.rounds.specs.Rounds.{compress}
use Rattle.sha_1.proofs.folded.Given as goal

abbrev pub invariant-loop-b : goal.invariant-loop-b
invariant-loop-b l = l.s ≡ fold compress l.initial.s (take l.b-index l.whole)
