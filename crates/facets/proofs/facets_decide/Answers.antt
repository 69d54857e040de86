use Rattle.facets.proofs.Laws.{deciding}
use Rattle.facets.proofs.facets_decide.Goals as goal

pub returns-clause-owners : goal.returns-clause-owners
returns-clause-owners c = search deciding

pub returns-clause-padding : goal.returns-clause-padding
returns-clause-padding c = search deciding
