use Rattle.std.proofs.Common.{ℕ, List, refl, ap, ◌∙◌, arith}
use Rattle.rounds.specs.Rounds.{rounds, sums, compress, mix, constant}
use Rattle.rounds.proofs.Turns.{all_rounds}
use Rattle.rounds.proofs.compress.Goals as goal

pub returns : goal.returns
unfolding compress mix constant
returns c =
    let h = c.args.h in
    c.sums.ensures
    ∙ ap (sums h)
    (all_rounds c.schedule-w.result h _ _ _ _ (omega arith) (c.quarter-first.ensures 0 (λ x y z r p. p) refl) (c.quarter-second.ensures 1 (λ x y z r p. p) refl)
    (c.quarter-third.ensures 2 (λ x y z r p. p) refl) (c.quarter-last.ensures 3 (λ x y z r p. p) refl))
    ∙ ap (λ (w : List ℕ). sums h (rounds w 80 h)) c.schedule-w.ensures
