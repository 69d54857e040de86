use Rattle.std.proofs.lemmas.Result.{err_from_is_err_and}
use Rattle.entries.proofs.Laws.{selecting}
use Rattle.entries.proofs.select.Goals as goal

pub returns-in_err-ids : goal.returns-in_err-ids
returns-in_err-ids c = search (err_from_is_err_and c.from_residual.result c.from_residual.ensures.1, c.in_err-ids.was, selecting)

pub returns-in_default : goal.returns-in_default
returns-in_default c = search selecting

pub invariant_of-result : goal.invariant_of-result
invariant_of-result c = search selecting

pub returns : goal.returns
returns c = search selecting
