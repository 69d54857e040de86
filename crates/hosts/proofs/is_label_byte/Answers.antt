use Rattle.hosts.proofs.Laws.{laws}
use Rattle.hosts.proofs.is_label_byte.Goals as goal

pub returns : goal.returns
returns c = search laws
