use Rattle.decision.proofs.Laws.{laws}
use Rattle.decision.proofs.locate.Goals as goal

pub returns-in-Fetch : goal.returns-in-Fetch
returns-in-Fetch c = search laws

pub returns-in_default : goal.returns-in_default
returns-in_default c = search laws

pub returns-in-Ok : goal.returns-in-Ok
returns-in-Ok c = search laws
