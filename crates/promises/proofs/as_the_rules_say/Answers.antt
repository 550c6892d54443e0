-- `promises::as_the_rules_say` keeps its promise: each part is a theorem of a crate below, along the chain.
use mathlib.Core.Path.{sym, subst}
use mathlib.Core.List.{[], ◌∷◌}
use Rattle.rules.specs.Act.{Out}
use Rattle.preserved.specs.Preserved.{Well}
use Rattle.preserved.proofs.Stays.{stays}
use Rattle.round.proofs.Trips.{read_then_written, written_then_read}
use Rattle.start.proofs.Fresh.{accepts}
use Rattle.promises.proofs.Chain.{chain}
use Rattle.promises.proofs.as_the_rules_say.Goals as goal

pub returns : goal.returns
returns c = record {
  started = λ κs a z w p. p;
  fresh = accepts;
  stepped = λ w x o. chain;
  well = λ w x o c h. subst (λ (y : Out). Well y.state y.memory) (sym (chain c)) (stays w (x ∷ []) h);
  stays = stays;
  hashed = λ κs a z w p. p;
  read_then_written = read_then_written;
  written_then_read = written_then_read;
}
