use Rattle.facets.proofs.Laws.{cleanings}
use Rattle.facets.proofs.facets_clean.Goals as goal

pub overflow_cast-result-in-Ok : goal.overflow_cast-result-in-Ok
overflow_cast-result-in-Ok c = search cleanings

pub returns-in-Err-clause-refusal : goal.returns-in-Err-clause-refusal
returns-in-Err-clause-refusal c = search cleanings

pub returns-in-Err-clause-padding : goal.returns-in-Err-clause-padding
returns-in-Err-clause-padding c = search cleanings

pub returns-in-Ok-clause-padding : goal.returns-in-Ok-clause-padding
returns-in-Ok-clause-padding c = search cleanings
