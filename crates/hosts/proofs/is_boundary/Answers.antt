use Rattle.hosts.proofs.Laws.{laws}
use Rattle.hosts.proofs.is_boundary.Goals as goal

pub returns-then-k-eq0 : goal.returns-then-k-eq0
returns-then-k-eq0 c = search laws

pub returns-then-h-k-eq46 : goal.returns-then-h-k-eq46
returns-then-h-k-eq46 c = search laws

pub returns : goal.returns
returns c = search laws
