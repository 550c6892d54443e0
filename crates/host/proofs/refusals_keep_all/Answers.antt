use Rattle.host.proofs.Refused.{refused_kept}
use Rattle.host.proofs.refusals_keep_all.Goals as goal

pub returns : goal.returns
returns c = refused_kept
