use Rattle.facets.proofs.Laws.{heads}
use Rattle.facets.proofs.facets_read_head.Goals as goal

pub overflow_cast-result-in-Ok : goal.overflow_cast-result-in-Ok
overflow_cast-result-in-Ok c = search heads

pub overflow_cast-result-in-Ok-2 : goal.overflow_cast-result-in-Ok-2
overflow_cast-result-in-Ok-2 c = search heads

pub returns-in-Err-clause-refusal : goal.returns-in-Err-clause-refusal
returns-in-Err-clause-refusal c = search heads

pub returns-in-Err-clause-item_len : goal.returns-in-Err-clause-item_len
returns-in-Err-clause-item_len c = search heads

pub returns-in-Err-clause-text_len : goal.returns-in-Err-clause-text_len
returns-in-Err-clause-text_len c = search heads

pub returns-in-Err-clause-item : goal.returns-in-Err-clause-item
returns-in-Err-clause-item c = search heads

pub returns-in-Err-clause-text : goal.returns-in-Err-clause-text
returns-in-Err-clause-text c = search heads

pub returns-in-Ok-clause-refusal : goal.returns-in-Ok-clause-refusal
returns-in-Ok-clause-refusal c = search heads

pub returns-in-Ok-clause-item_len : goal.returns-in-Ok-clause-item_len
returns-in-Ok-clause-item_len c = search heads

pub returns-in-Ok-clause-text_len : goal.returns-in-Ok-clause-text_len
returns-in-Ok-clause-text_len c = search heads

pub returns-in-Ok-clause-item : goal.returns-in-Ok-clause-item
returns-in-Ok-clause-item c = search heads

pub returns-in-Ok-clause-text : goal.returns-in-Ok-clause-text
returns-in-Ok-clause-text c = search heads
