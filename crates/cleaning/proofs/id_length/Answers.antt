use Rattle.cleaning.proofs.Laws.{laws}
use Rattle.cleaning.proofs.id_length.Goals as goal

pub overflow_add-result : goal.overflow_add-result
overflow_add-result c = search laws

pub returns-then-first : goal.returns-then-first
returns-then-first c = search laws

pub overflow_add-result-2 : goal.overflow_add-result-2
overflow_add-result-2 c = search laws

pub returns : goal.returns
returns c = search laws
