use Rattle.origin.proofs.Laws.{laws}
use Rattle.origin.proofs.is_facet.Goals as goal

pub returns-then-s-gt512 : goal.returns-then-s-gt512
returns-then-s-gt512 c = search laws

pub returns-then-is_some : goal.returns-then-is_some
returns-then-is_some c = search laws

pub returns : goal.returns
returns c = search laws
