use Rattle.origin.proofs.Laws.{laws}
use Rattle.origin.proofs.is_tail_byte.Goals as goal

pub returns-then-b-lt33 : goal.returns-then-b-lt33
returns-then-b-lt33 c = search laws

pub returns-then-b-gt126 : goal.returns-then-b-gt126
returns-then-b-gt126 c = search laws

pub returns : goal.returns
returns c = search laws
