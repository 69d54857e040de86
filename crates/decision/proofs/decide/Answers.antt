use Rattle.decision.proofs.Laws.{laws}
use Rattle.decision.proofs.decide.Goals as goal

pub returns-in-Err : goal.returns-in-Err
returns-in-Err c = search laws

pub returns-in-Ok-by_list : goal.returns-in-Ok-by_list
returns-in-Ok-by_list c = search laws

pub returns-in-Err-by_list : goal.returns-in-Err-by_list
returns-in-Err-by_list c = search laws
