use Rattle.hosts.proofs.Laws.{laws}
use Rattle.hosts.proofs.is_address.Goals as goal

pub returns : goal.returns
returns c = search laws
