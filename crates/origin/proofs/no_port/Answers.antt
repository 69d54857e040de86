use Rattle.origin.proofs.Laws.{absent}
use Rattle.origin.proofs.no_port.Goals as goal

pub returns : goal.returns
returns c = search absent
