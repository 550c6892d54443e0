-- `promises::kept_apart` keeps its promise: each part is a theorem of a crate below, along the chain.
use Rattle.rules.proofs.Isolated.{isolated}
use Rattle.alive.proofs.Ran.{two_worlds}
use Rattle.promises.proofs.Apart.{isolated_code}
use Rattle.promises.proofs.kept_apart.Goals as goal

pub returns : goal.returns
returns c = record {
  rules = isolated;
  code = isolated_code;
  alive = two_worlds;
}
