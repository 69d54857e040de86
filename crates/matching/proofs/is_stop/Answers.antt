use Rattle.matching.proofs.Laws.{unlike_laws}
use Rattle.matching.proofs.is_stop.Goals as goal

pub returns-then-b-eq58 : goal.returns-then-b-eq58
returns-then-b-eq58 c = search unlike_laws

pub returns : goal.returns
returns c = search unlike_laws
