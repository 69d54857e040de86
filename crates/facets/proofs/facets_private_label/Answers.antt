use Rattle.facets.proofs.Laws.{ending, labelled, laws}
use Rattle.facets.proofs.facets_private_label.Goals as goal

pub overflow_cast-result : goal.overflow_cast-result
overflow_cast-result c = search laws

pub returns-clause-inside : goal.returns-clause-inside
returns-clause-inside c = search labelled

pub returns-clause-part : goal.returns-clause-part
returns-clause-part c = search ending
