use Rattle.matching.proofs.Laws.{laws, match_laws}
use Rattle.matching.proofs.matches.Goals as goal

pub returns-then-are_unlike : goal.returns-then-are_unlike
returns-then-are_unlike c = search match_laws

pub returns-in_default : goal.returns-in_default
returns-in_default c = search match_laws

pub returns-in_default-web_origin : goal.returns-in_default-web_origin
returns-in_default-web_origin c = search match_laws

pub same_origin-requires : goal.same_origin-requires
same_origin-requires c = search laws

pub returns : goal.returns
returns c = search match_laws
