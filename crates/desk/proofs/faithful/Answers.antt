use Rattle.desk.proofs.Session as session
use Rattle.desk.proofs.faithful.Goals as goal

pub returns : goal.returns
returns c = session.faithful
