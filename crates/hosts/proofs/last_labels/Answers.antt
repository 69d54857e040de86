use Rattle.hosts.proofs.Laws.{laws}
use Rattle.hosts.proofs.last_labels.Goals as goal

pub returns-then-k-n : goal.returns-then-k-n
returns-then-k-n c = search laws

pub returns-else-k-n : goal.returns-else-k-n
returns-else-k-n c = search laws
