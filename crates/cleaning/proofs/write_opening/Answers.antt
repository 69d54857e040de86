use Rattle.cleaning.proofs.Laws.{laws}
use Rattle.cleaning.proofs.write_opening.Goals as goal

pub returns-then-first : goal.returns-then-first
returns-then-first c = search laws

pub returns : goal.returns
returns c = search laws
