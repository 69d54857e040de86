use Rattle.origin.proofs.Laws.{laws}
use Rattle.origin.proofs.is_end.Goals as goal

pub returns-then-is_empty : goal.returns-then-is_empty
returns-then-is_empty c = search laws

pub returns : goal.returns
returns c = search laws
