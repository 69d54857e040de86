use Rattle.origin.proofs.Laws.{laws}
use Rattle.origin.proofs.port_number.Goals as goal

pub returns-then-begins_with : goal.returns-then-begins_with
returns-then-begins_with c = search laws

pub returns : goal.returns
returns c = search laws
