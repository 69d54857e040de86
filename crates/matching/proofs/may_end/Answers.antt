use Rattle.matching.proofs.Laws.{unlike_laws}
use Rattle.matching.proofs.may_end.Goals as goal

pub returns-then-at-s : goal.returns-then-at-s
returns-then-at-s c = search unlike_laws

pub returns : goal.returns
returns c = search unlike_laws
