use Rattle.origin.proofs.Laws.{laws}
use Rattle.origin.proofs.is_host_byte.Goals as goal

pub returns : goal.returns
returns c = search laws
