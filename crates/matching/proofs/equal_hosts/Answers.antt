use Rattle.matching.proofs.Laws.{match_laws}
use Rattle.matching.proofs.equal_hosts.Goals as goal

pub returns : goal.returns
returns c = search match_laws
