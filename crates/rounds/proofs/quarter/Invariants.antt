use Rattle.std.proofs.Common.{◌≡◌, ℕ, take}
use Rattle.std.specs.List.{fold}
use Rattle.rounds.specs.Rounds.{mix, constant, round}
use Rattle.rounds.proofs.quarter.Given as goal

abbrev pub invariant-loop-x : goal.invariant-loop-x
invariant-loop-x g l =
    (q : ℕ) → ((x y z r : ℕ) → goal.F-post g l.mix x y z r → r ≡ mix q x y z) → l.k ≡ constant q
    → l.s ≡ fold (λ s w. round q w s) l.initial.s (take l.x-index l.w)
