-- `integrity::entered_by_call` keeps its promise: it is the theorem. Assumes nothing.
use Rattle.integrity.proofs.Entered.{entered_by_call}
use Rattle.integrity.proofs.entered_by_call.Goals as goal

pub returns : goal.returns
returns c = entered_by_call
