-- `promises::every_input_answered` keeps its promise: each part is a theorem of a crate below, along the chain.
use mathlib.Core.Path.{sym, ap, subst, ◌∙◌}
use mathlib.Core.Logic.{◌≢◌}
use Rattle.events.specs.Answers.{told_by}
use Rattle.rules.specs.Act.{Out}
use Rattle.kept.specs.Refusals.{AsGiven}
use Rattle.kept.proofs.Refused.{refusals_keep, refusals_named}
use Rattle.start.proofs.Fresh.{refuses}
use Rattle.promises.proofs.Chain.{chain, called}
use Rattle.promises.proofs.Refuse.{read_refuses, write_refuses, map_refuses}
use Rattle.promises.proofs.every_input_answered.Goals as goal

pub returns : goal.returns
returns c = record {
  start_asks_nothing = λ κs a. tt;
  step_asks_nothing = λ κs a. tt;
  read_asks_nothing = λ κs a. tt;
  write_asks_nothing = λ κs a. tt;
  map_asks_nothing = λ κs a. tt;
  answered = called;
  numbered = λ w x o c r e. refusals_named w.state w.memory x.event x.payload x.buffer r (ap (λ (y : Out). y.answer) (sym (chain c)) ∙ e);
  kept = λ w x o c l n. subst (λ (y : Out). (told_by y.answer).number ≢ 0 → AsGiven w.state w.memory x.buffer y) (sym (chain c)) (refusals_keep w.state w.memory x.event x.payload x.buffer l) n;
  start_refuses = refuses;
  read_refuses = read_refuses;
  write_refuses = write_refuses;
  map_refuses = map_refuses;
}
