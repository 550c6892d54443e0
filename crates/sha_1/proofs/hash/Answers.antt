use Rattle.sha_1.proofs.Holds.{hashed}
use Rattle.sha_1.proofs.hash.Goals as goal

pub returns : goal.returns
returns c = cc (hashed c.args.part.now)
