use Rattle.decision.proofs.Laws.{laws}
use Rattle.decision.proofs.last_target.Goals as goal

pub returns-in-None : goal.returns-in-None
returns-in-None c = search laws

pub returns-in-Some : goal.returns-in-Some
returns-in-Some c = search laws
