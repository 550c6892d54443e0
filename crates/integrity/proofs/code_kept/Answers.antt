-- `integrity::code_kept` keeps its promise: it is the theorem. Assumes nothing.
use Rattle.integrity.proofs.Coded.{code_kept}
use Rattle.integrity.proofs.code_kept.Goals as goal

pub returns : goal.returns
returns c = code_kept
