use Rattle.std.proofs.Common.{◌≡◌, refl, ◌∙◌, sym, arith, take_all, rules}
use Rattle.lists.specs.Below.{table}
use Rattle.rounds.specs.Rounds.{schedule}
use Rattle.rounds.proofs.Turns.{more_words, more_schedule}
use Rattle.rounds.proofs.schedule.Goals as goal

pub loop-t-init : goal.loop-t-init
unfolding table
loop-t-init c = (refl, refl)

pub loop-t-preserved : goal.loop-t-preserved
loop-t-preserved c = (search rules, more_words _ _ _ _ (omega arith) c.loop-t.invariant.1 c.word.ensures)

pub loop-turn-init : goal.loop-turn-init
unfolding schedule
loop-turn-init c = let e : c.loop-t.t ≡ 16 = omega arith in (search rules, rw e at c.loop-t.invariant.1)

pub loop-i-preserved : goal.loop-i-preserved
loop-i-preserved c = (search rules, more_schedule _ _ _ _ _ (omega arith) (omega arith) c.loop-i.invariant.1 c.rotl.ensures)

pub returns : goal.returns
returns c =
    let e : c.loop-turn.turn ≡ 4 = omega arith in
    sym (take_all 80 c.loop-turn.w (omega arith)) ∙ rw e at c.loop-turn.invariant.1
