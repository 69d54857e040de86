use Rattle.facets.proofs.Laws.{deciding}
use Rattle.facets.proofs.facets_decide_place.Goals as goal

pub place_after-requires : goal.place_after-requires
place_after-requires c = search deciding

pub returns-clause-owners : goal.returns-clause-owners
returns-clause-owners c = search deciding

pub returns-clause-padding : goal.returns-clause-padding
returns-clause-padding c = search deciding

pub returns-clause-padded_place : goal.returns-clause-padded_place
returns-clause-padded_place c = search deciding
