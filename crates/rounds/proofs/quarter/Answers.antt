use Rattle.std.proofs.Common.{ap, sym, ◌∙◌, arith}
use Rattle.std.proofs.lemmas.List.Sums.{fold_more}
use Rattle.rounds.specs.Rounds.{round}
use Rattle.rounds.proofs.Turns.{round_is}
use Rattle.rounds.proofs.quarter.Goals as goal

pub loop-x-preserved : goal.loop-x-preserved
loop-x-preserved g c = λ q h e.
    let s = c.loop-x.s in
    c.step-s.ensures
    ∙ round_is q _ _ _ s (h s.b s.c s.d _ c.mix.ensures) e
    ∙ ap (round q _) (c.loop-x.invariant q h e)
    ∙ sym (fold_more _ c.args.s c.args.w.now c.loop-x.x-index 0 (omega arith))
