use Rattle.matching.proofs.Laws.{match_laws}
use Rattle.matching.proofs.same_host.Goals as goal

pub returns-in_default : goal.returns-in_default
returns-in_default c = search match_laws

pub returns-in_default-https_url : goal.returns-in_default-https_url
returns-in_default-https_url c = search match_laws

pub returns : goal.returns
returns c = search match_laws
