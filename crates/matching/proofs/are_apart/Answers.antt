use Rattle.matching.proofs.Laws.{unlike_laws}
use Rattle.matching.proofs.are_apart.Goals as goal

pub returns-then-may_end : goal.returns-then-may_end
returns-then-may_end c = search unlike_laws

pub returns : goal.returns
returns c = search unlike_laws
