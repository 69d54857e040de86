use Rattle.matching.proofs.Laws.{match_laws}
use Rattle.matching.proofs.same_origin.Goals as goal

pub returns-then-p-q : goal.returns-then-p-q
returns-then-p-q c = search match_laws

pub returns : goal.returns
returns c = search match_laws
