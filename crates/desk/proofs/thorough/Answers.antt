use Rattle.desk.proofs.Session as session
use Rattle.desk.proofs.thorough.Goals as goal

pub returns : goal.returns
returns c = session.thorough
